-- Text put into a buffer, piece after piece. Assumes nothing.
use mathlib.Core.Path.{◌≡◌, refl, ap, ◌∙◌, sym}
use mathlib.Core.List.{List, [], ◌++◌, append_assoc, append-nil}
use Prim.Native.Nat.{ℕ, suc, ◌+◌, ◌*◌, ◌≤◌}
use native.Mathlib.Numerals.{add-one}
use native.Mathlib.Omega.{arith}
use lib.Dec.{T, leb, leb→le}
use lib.ListN.{length, take}
use lib.Seq.{length-take-le}
use Rattle.io.specs.Counts.{IsPrefixLen}
use Rattle.listing.specs.Text.{Appended}

-- no text
pub appended_none : (at : ℕ) (out : List ℕ) → Appended at [] 0 out at out
appended_none at out = record { bytes = sym (append-nil (take at out)); reach = omega arith; size = refl }

-- one text behind another
pub then : {at m r a b : ℕ} {s t old mid new : List ℕ} → Appended at s a old m mid → Appended m t b mid r new → Appended at (s ++ t) (a + b) old r new
then {at} {s = s} {t = t} {old = old} p q = record {
  bytes = q.bytes ∙ ap (λ (l : List ℕ). l ++ t) p.bytes ∙ append_assoc (take at old) s t;
  reach = omega (arith, p.reach, q.reach);
  size = q.size ∙ p.size;
}

-- the same text by another name, and more room
pub as_text : {at r a b : ℕ} {s t old new : List ℕ} → s ≡ t → a ≤ b → Appended at s a old r new → Appended at t b old r new
as_text {at} {old = old} e h p = record { bytes = p.bytes ∙ ap (λ (l : List ℕ). take at old ++ l) e; reach = omega (arith, p.reach); size = p.size }

-- lines one behind the other, each of at most m bytes: one line more
pub one_line_more : {at end r : ℕ} {line old mid new : List ℕ} (text : ℕ → List ℕ) (m n : ℕ) → text (suc n) ≡ text n ++ line
    → Appended at (text n) (m * n) old end mid → Appended end line m mid r new → Appended at (text (n + 1)) (m * (n + 1)) old r new
one_line_more text m n next before one =
    let last : text (suc n) ≡ text (n + 1) = ap text (sym (add-one n)) in
    as_text (sym next ∙ last) (omega arith) (then before one)

-- behind a text that leaves b of the room there are b places
pub room_left : {r a room : ℕ} {s old mid : List ℕ} (b : ℕ) → Appended 0 s a old r mid → room ≤ length old → T (leb (a + b) room) → r + b ≤ length mid
room_left {a = a} {room = room} b p h t = let fits : a + b ≤ room = leb→le (a + b) room t in omega (arith, fits, p.reach, p.size, h)

-- text at the front of a buffer with room for it
pub counted : {r most : ℕ} {text old new : List ℕ} → Appended 0 text most old r new → most ≤ length old → IsPrefixLen r new
counted {r} {new = new} p room =
    let inside : r ≤ length new = omega (arith, p.reach, p.size, room) in
    (inside, sym (length-take-le r new inside))
