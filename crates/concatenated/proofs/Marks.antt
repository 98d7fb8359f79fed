-- The mark of a set of columns, for any number of them: its bits, its size, its ones; and how it is made column by column. Assumes nothing.
use mathlib.Core.Bool.{Bool, true, false}
use mathlib.Core.List.{List, [], ◌∷◌, ◌++◌, map}
use mathlib.Core.Path.{◌≡◌, refl, sym, ap, ap₂, ◌∙◌, subst}
use Prim.Native.Nat.{ℕ, zero, suc, ◌+◌, ◌*◌, ◌/◌, ◌%◌, ◌^◌, ◌≤◌, ◌<◌}
use native.Mathlib.Nat.{pow-suc, pow-le-pow_right, zero-div, mul_assoc}
use native.Mathlib.Numerals.{add-one}
use native.Mathlib.Omega.{arith}
use lib.Bits.{bit_or, or_shifted_r}
use lib.Count.{ones, ones_step}
use lib.ListN.{length, get_or, take, replicate, get_or-eq_default}
use lib.Pow.{shl_exact, shr-shr}
use lib.Seq.{take-suc, length-take-le}
use Rattle.packing.specs.Packing.{digit}
use Rattle.concatenated.specs.Lists.{All, total}
use Rattle.concatenated.specs.Flags.{flag}
use Rattle.concatenated.specs.Decode.{Level}
use Rattle.concatenated.specs.Outer.{is_in}
use Rattle.concatenated.specs.Marks.{mark_of, bit_of}
use Rattle.concatenated.proofs.Counting.{at_most_one}

-- the lowest bit, and the others
lowest : (b : Bool) (m : ℕ) → (flag b + 2 * m) % 2 ≡ flag b
lowest true m = omega arith
lowest false m = omega arith

others : (b : Bool) (m : ℕ) → (flag b + 2 * m) / 2 ≡ m
others true m = omega arith
others false m = omega arith

digit_above : (x j : ℕ) → digit 2 (suc j) x ≡ digit 2 j (x / 2)
digit_above x j = ap (λ (y : ℕ). y % 2) (sym (shr-shr x 1 j ∙ ap (λ (k : ℕ). x / 2 ^ k) (omega arith)))

-- bit j says whether column j is in the set; a column that the page does not have is in no set
pub bit_is_membership : (s : List Bool) (j : ℕ) → bit_of (mark_of s) j ≡ flag (is_in s j)
unfolding mark_of
bit_is_membership [] j = ap (λ (x : ℕ). x % 2) (zero-div _)
bit_is_membership (b ∷ s) zero = let one : (flag b + 2 * mark_of s) / 1 ≡ flag b + 2 * mark_of s = omega arith in ap (λ (x : ℕ). x % 2) one ∙ lowest b (mark_of s)
bit_is_membership (b ∷ s) (suc j) = digit_above (flag b + 2 * mark_of s) j ∙ ap (digit 2 j) (others b (mark_of s)) ∙ bit_is_membership s j

-- above its columns a mark has no bit: of 63 columns bit 63 is 0
pub no_bit_above : (s : List Bool) (j : ℕ) → length s ≤ j → bit_of (mark_of s) j ≡ 0
no_bit_above s j h = bit_is_membership s j ∙ ap flag (get_or-eq_default s false h)

-- the mark of n columns has n bits, so that of up to 64 fits
pub mark_is_small : (s : List Bool) → mark_of s < 2 ^ length s
unfolding mark_of
mark_is_small [] = omega arith
mark_is_small (b ∷ s) = rw (pow-suc 2 (length s)) (omega (arith, at_most_one b, mark_is_small s))

pub mark_fits : (s : List Bool) → length s ≤ 64 → mark_of s < 2 ^ 64
mark_fits s few = omega (arith, mark_is_small s, pow-le-pow_right {n = 2} (omega arith) {i = length s} {j = 64} few)

-- it is the only number with these bits and no others
pub mark_is_the_only_one : (s : List Bool) (m : ℕ) → m < 2 ^ length s → ((j : ℕ) → j < length s → bit_of m j ≡ flag (is_in s j)) → m ≡ mark_of s
unfolding mark_of
mark_is_the_only_one [] m small bits = omega arith
mark_is_the_only_one (b ∷ s) m small bits =
    let half : m < 2 ^ length s * 2 = rw (← pow-suc 2 (length s)) small in
    let rest : m / 2 ≡ mark_of s = mark_is_the_only_one s (m / 2) (omega arith) (λ j h. sym (digit_above m j) ∙ bits (suc j) (omega arith)) in
    let one : m / 1 % 2 ≡ flag b = bits 0 (omega arith) in
    omega (arith, rest, one)

-- it has as many ones as the set has columns
pub ones_are_the_total : (s : List Bool) → ones (mark_of s) ≡ total s
unfolding mark_of total ones
ones_are_the_total [] = refl
ones_are_the_total (b ∷ s) = ones_step (flag b + 2 * mark_of s) ∙ ap₂ (λ (x y : ℕ). x + ones y) (lowest b (mark_of s)) (others b (mark_of s)) ∙ ap (λ (n : ℕ). flag b + n) (ones_are_the_total s)

-- so the ones of the marks of all levels are the totals
pub ones_of_marks : (f : Level → List Bool) (ls : List Level) → map ones (map (λ l. mark_of (f l)) ls) ≡ map (λ l. total (f l)) ls
ones_of_marks f [] = refl
ones_of_marks f (l ∷ ls) = ap₂ (λ (n : ℕ) (ns : List ℕ). n ∷ ns) (ones_are_the_total (f l)) (ones_of_marks f ls)

-- a set of no columns has no bit
mark_of_none : (s : List Bool) → total s ≡ 0 → mark_of s ≡ 0
unfolding mark_of total
mark_of_none [] e = refl
mark_of_none (b ∷ s) e = omega (arith, mark_of_none s (omega (arith, e)), e)

-- so levels that each have none have totals and marks of 0
pub none_at_any_level : (f : Level → List Bool) (ls : List Level) → All (λ l. total (f l) ≡ 0) ls → (map (λ l. total (f l)) ls ≡ replicate (length ls) 0) × (map (λ l. mark_of (f l)) ls ≡ replicate (length ls) 0)
none_at_any_level f [] none = (refl, refl)
none_at_any_level f (l ∷ ls) none =
    let others = none_at_any_level f ls none.1 in
    (ap₂ (λ (n : ℕ) (ns : List ℕ). n ∷ ns) none.0 others.0, ap₂ (λ (n : ℕ) (ns : List ℕ). n ∷ ns) (mark_of_none (f l) none.0) others.1)

-- one column more: its flag at the next bit
mark_append : (s : List Bool) (b : Bool) → mark_of (s ++ (b ∷ [])) ≡ flag b * 2 ^ length s + mark_of s
unfolding mark_of
mark_append [] b = omega arith
mark_append (x ∷ s) b =
    let weight : flag b * 2 ^ suc (length s) ≡ flag b * 2 ^ length s * 2 = ap (λ (w : ℕ). flag b * w) (pow-suc 2 (length s)) ∙ sym (mul_assoc (flag b) (2 ^ length s) 2) in
    omega (arith, weight, mark_append s b)

pub mark_none : (s : List Bool) → 0 ≡ mark_of (take 0 s)
unfolding mark_of
mark_none s = refl

pub mark_more : (s : List Bool) (j mark bit : ℕ) → j < length s → j < 64 → mark ≡ mark_of (take j s) → bit ≡ flag (is_in s j) → bit_or mark (bit * 2 ^ j % 2 ^ 64) ≡ mark_of (take (j + 1) s)
mark_more s j mark bit inside few is eb =
    let long : length (take j s) ≡ j = length-take-le j s (omega arith) in
    let small : mark < 2 ^ j = subst (λ (n : ℕ). mark < 2 ^ n) long (subst (λ (m : ℕ). m < 2 ^ length (take j s)) (sym is) (mark_is_small (take j s))) in
    let bit_small : bit < 2 = omega (arith, eb, at_most_one (get_or s j false)) in
    ap (bit_or mark) (shl_exact 1 j 64 bit_small (omega arith))
    ∙ or_shifted_r bit j mark small
    ∙ ap₂ ◌+◌ (ap₂ (λ (f n : ℕ). f * 2 ^ n) eb (sym long)) is
    ∙ sym (mark_append (take j s) (get_or s j false))
    ∙ ap mark_of (sym (take-suc s j false inside) ∙ ap (λ (n : ℕ). take n s) (sym (add-one j)))
