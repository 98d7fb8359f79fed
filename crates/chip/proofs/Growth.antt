-- What the growth of a stack is to the 64 places. Assumes nothing.
use Prim.Native.Nat.{ℕ, zero, suc, ◌+◌, ◌-◌, ◌*◌, ◌/◌, ◌%◌, ◌≤◌, ◌<◌}
use native.Mathlib.Omega.{arith}
use mathlib.Core.Bool.{Bool, true, false, cond, ◌&&◌, ◌||◌, not, true≢false}
use mathlib.Core.List.{List, [], ◌∷◌}
use mathlib.Core.Logic.{◌⊎◌, inl, inr, ⊎_elim}
use mathlib.Core.Path.{◌≡◌, refl, sym, ap, ap₂, ◌∙◌, subst, subst⁻¹}
use lib.Dec.{eqb, ltb}
use borrow.Author.Tests.{eqb-true, eqb-false, ne_eqb, lt-ltb, le-ltb}
use lib.IntN.{ℤ, pos, ◌+ℤ◌}
use lib.ListN.{length, get_or, take}
use lib.Seq.{take_all}
use lib.Signed.{lt_z}
use Rattle.column.specs.Mask.{parity}
use Rattle.paths.specs.Lists.{Mem}
use Rattle.paths.specs.Stack.{Nodes, insert, push, extend, grow}
use Rattle.paths.specs.Bounded.{Bounded, bounded, crowded}
use Rattle.paths.proofs.Booleans.{or_false}
use Rattle.paths.proofs.Bounded.{of_take}
use Rattle.paths.proofs.Integers.{same_before}
use Rattle.paths.proofs.Stack.{of_extend, grow_length}
use Rattle.heap.specs.Holds.{Ordered}
use Rattle.trellis.specs.Keys.{Key, key_before, key_passes}
use Rattle.trellis.proofs.Order.{key_order}
use Rattle.std.specs.Prelude.{Option, None, Some}
use Rattle.stack.specs.declared.Path.{Path}
use Rattle.stack.specs.Places.{path_key, Upto}
use Rattle.extension.specs.Steps.{Given, Good, Held, table_extension, table_nodes}
use Rattle.extension.proofs.NextBit.{let_in, dead_in, asked_in}
use Rattle.extension.proofs.Advances.{flag, flag_other, held_extension, passes_free, passes}
use Rattle.chip.specs.Places.{placed, Leading, Standing, First, Stepped}
use Rattle.chip.proofs.Placed.{placed_length, swap_placed, first_placed, placed_after}

-- ---- growth, for any nodes in the order of keys

module _ (E : Bool → Key → Key) (X F : Key → Bool) where
  abbrev M : Nodes Key
  M = record { extension = E; sum = λ k. k.sum; before = key_before; exists = X; full = F }

  insert_placed : (x : Key) (xs : List Key) → insert M x xs ≡ placed x xs
  unfolding placed insert
  insert_placed x [] = refl
  insert_placed x (y ∷ ys) = ap (λ (l : List Key). cond (key_before y x) (y ∷ l) (x ∷ y ∷ ys)) (insert_placed x ys)

  pushed_in : (x : Key) (xs : List Key) → X x ≡ true → push M x xs ≡ placed x xs
  unfolding push
  pushed_in x xs e = ap (λ (b : Bool). cond b (insert M x xs) xs) e ∙ insert_placed x xs

  pushed_not : (x : Key) (xs : List Key) → X x ≡ false → push M x xs ≡ xs
  unfolding push
  pushed_not x xs e = ap (λ (b : Bool). cond b (insert M x xs) xs) e

  module _ (p : Key) (part : F p ≡ false) where
    grow_extend : (xs : List Key) → grow M p xs ≡ extend M p xs
    unfolding grow
    grow_extend xs = ap (λ (b : Bool). cond b xs (extend M p xs)) part

    grow_pushes : (xs : List Key) → grow M p xs ≡ push M (E true p) (push M (E false p) xs)
    unfolding extend
    grow_pushes xs = grow_extend xs

    grow_none : (xs : List Key) → X (E false p) ≡ false → X (E true p) ≡ false → grow M p xs ≡ xs
    grow_none xs a b = grow_pushes xs ∙ pushed_not (E true p) (push M (E false p) xs) b ∙ pushed_not (E false p) xs a

    grow_one : (t u : Bool) (xs : List Key) → X (E t p) ≡ true → X (E u p) ≡ false → (t ≡ u → ⊥) → grow M p xs ≡ placed (E t p) xs
    grow_one true true xs a b ne = absurd (ne refl)
    grow_one true false xs a b ne = grow_pushes xs ∙ pushed_in (E true p) (push M (E false p) xs) a ∙ ap (placed (E true p)) (pushed_not (E false p) xs b)
    grow_one false true xs a b ne = grow_pushes xs ∙ pushed_not (E true p) (push M (E false p) xs) b ∙ pushed_in (E false p) xs a
    grow_one false false xs a b ne = absurd (ne refl)

    grow_both : (t u : Bool) (xs : List Key) → Ordered Upto xs → X (E false p) ≡ true → X (E true p) ≡ true → (t ≡ u → ⊥) → grow M p xs ≡ placed (E u p) (placed (E t p) xs)
    grow_both true true xs o a b ne = absurd (ne refl)
    grow_both true false xs o a b ne =
        grow_pushes xs ∙ pushed_in (E true p) (push M (E false p) xs) b ∙ ap (placed (E true p)) (pushed_in (E false p) xs a) ∙ swap_placed (E true p) (E false p) xs o
    grow_both false true xs o a b ne = grow_pushes xs ∙ pushed_in (E true p) (push M (E false p) xs) b ∙ ap (placed (E true p)) (pushed_in (E false p) xs a)
    grow_both false false xs o a b ne = absurd (ne refl)

-- ---- a step

module _ (n : ℕ) (soft left right : List ℕ) (table : List ℤ) (g : Given n soft left right table) (lead : Leading table)
    (p : Key) (lt : p.len < n) (gp : Good n p) (lost : Bool) (xs : List Key) (stands : Standing xs) (held : (k : Key) → Mem k xs → Held n k) where
  abbrev K : Nodes Key
  K = table_nodes n table soft left right

  abbrev G : Bool → Key → Key
  G = table_extension table soft

  abbrev X : Key → Bool
  X = key_passes left right

  abbrev F : Key → Bool
  F z = eqb z.len n

  abbrev k : ℕ
  k = length xs

  part : eqb p.len n ≡ false
  part = ne_eqb p.len n (omega arith)

  held_all : (z : Key) → Mem z (take 64 (grow K p xs)) → Held n z
  held_all z m = ⊎_elim (λ h. subst⁻¹ (Held n) h.1 (held_extension n soft left right table g p h.0 lt gp)) (held z)
      (of_extend K p xs z (subst (λ (ys : List Key). Mem z ys) (grow_extend G X F p part xs) (of_take 64 (grow K p xs) z m)))

  stepped : (ys : List Key) (lost' : Bool) (y : Path) → lost' ≡ (lost || crowded K 64 (grow K p xs)) → take 64 (grow K p xs) ≡ path_key y ∷ ys → Stepped K n (bounded xs lost) (bounded ys lost') p (Some y)
  stepped ys lost' y fl e = record { held = λ z m. member z (inr m); taken = member (path_key y) (inl refl); flag = fl; step = e }
    where
      member : (z : Key) → Mem z (path_key y ∷ ys) → Held n z
      member z h = held_all z (subst⁻¹ (λ (l : List Key). Mem z l) e h)

  room : (ys : List Key) → length ys ≤ 64 → (lost ≡ (lost || crowded K 64 ys)) × (take 64 ys ≡ ys)
  unfolding crowded
  room ys h = (sym (ap (λ (b : Bool). lost || b) (le-ltb 64 (length ys) h) ∙ or_false lost), take_all 64 ys h)

  stepped_out : (ys : List Key) (y : Option Path) → grow K p xs ≡ xs → First xs ys y → Stepped K n (bounded xs lost) (bounded ys lost) p y
  stepped_out ys None e (ex, ey) =
      record { held = λ z m. absurd (subst (λ (l : List Key). Mem z l) ey m); taken = tt; flag = (fits e).0; step = ((fits e).1 ∙ e ∙ ex, ey) }
    where
      fits : grow K p xs ≡ xs → (lost ≡ (lost || crowded K 64 (grow K p xs))) × (take 64 (grow K p xs) ≡ grow K p xs)
      fits e = room (grow K p xs) (omega (arith, ap length e, stands.few))
  stepped_out ys (Some y) e o = stepped ys lost y (fits e).0 ((fits e).1 ∙ e ∙ o)
    where
      fits : grow K p xs ≡ xs → (lost ≡ (lost || crowded K 64 (grow K p xs))) × (take 64 (grow K p xs) ≡ grow K p xs)
      fits e = room (grow K p xs) (omega (arith, ap length e, stands.few))

  abbrev x₁ : ℕ
  x₁ = get_or left p.len 0

  abbrev y₁ : ℕ
  y₁ = get_or right p.len 0

  free : (eqb x₁ 0 && eqb y₁ 0) ≡ true → (t : Bool) → X (G t p) ≡ true
  free = passes_free n soft left right table g p lt gp (λ j. p) (λ j. p) 0 (λ j h. absurd (omega arith))

  -- the bit that agrees stands before the other
  leads : (q t u : ℕ) → q ≡ get_or soft p.len 0 → t ≡ q / 4 % 2 → t < 2 → u ≡ 1 - t → key_before (G (flag t) p) (G (flag u) p) ≡ true
  unfolding key_before table_extension
  leads q zero zero eq et ht eu = absurd (omega arith)
  leads q zero (suc zero) eq et ht eu =
      let h : lt_z (get_or table (1 * 8 + get_or soft p.len 0) (pos 0)) (get_or table (0 * 8 + get_or soft p.len 0) (pos 0)) ≡ true = lead.more (get_or soft p.len 0) 0 (g.soft p.len lt) (et ∙ ap (λ (i : ℕ). i / 4 % 2) eq) in
      let k : lt_z (p.sum +ℤ get_or table (1 * 8 + get_or soft p.len 0) (pos 0)) (p.sum +ℤ get_or table (0 * 8 + get_or soft p.len 0) (pos 0)) ≡ true = same_before p.sum _ _ ∙ h in
      rw k
  leads q zero (suc (suc u)) eq et ht eu = absurd (omega arith)
  leads q (suc zero) zero eq et ht eu =
      let h : lt_z (get_or table (0 * 8 + get_or soft p.len 0) (pos 0)) (get_or table (1 * 8 + get_or soft p.len 0) (pos 0)) ≡ true = lead.more (get_or soft p.len 0) 1 (g.soft p.len lt) (et ∙ ap (λ (i : ℕ). i / 4 % 2) eq) in
      let k : lt_z (p.sum +ℤ get_or table (0 * 8 + get_or soft p.len 0) (pos 0)) (p.sum +ℤ get_or table (1 * 8 + get_or soft p.len 0) (pos 0)) ≡ true = same_before p.sum _ _ ∙ h in
      rw k
  leads q (suc zero) (suc u) eq et ht eu = absurd (omega arith)
  leads q (suc (suc t)) u eq et ht eu = absurd (omega arith)

  pub stepped_both : (s₁ s : Bounded Key) (q t u : ℕ) (kt ku : Key) (r : Path) → (eqb x₁ 0 && eqb y₁ 0) ≡ true → q ≡ get_or soft p.len 0 → t ≡ q / 4 % 2 → t < 2 → u ≡ 1 - t
      → kt ≡ G (flag t) p → ku ≡ G (flag u) p
      → placed kt xs ≡ path_key r ∷ s₁.stack → s₁.any_pushed_out ≡ lost
      → s ≡ bounded (take 63 (placed ku s₁.stack)) (s₁.any_pushed_out || eqb (length s₁.stack) 63) → Stepped K n (bounded xs lost) s p (Some r)
  unfolding crowded
  stepped_both s₁ s q t u kt ku r fr eq et ht eu ekt eku out same back =
      subst⁻¹ (λ (b : Bounded Key). Stepped K n (bounded xs lost) b p (Some r)) back
      (stepped (take 63 (placed ku s₁.stack)) (s₁.any_pushed_out || eqb (length s₁.stack) 63) r (ap₂ ◌||◌ same (ap (λ (i : ℕ). eqb i 63) many ∙ crowd))
      (ap (take 64) grown ∙ ap (λ (ys : List Key). take 64 (placed ku ys)) out ∙ ap (take 64) (placed_after (path_key r) ku s₁.stack (before (first_placed kt (path_key r) xs s₁.stack out)))))
    where
      many : length s₁.stack ≡ k
      many = let both : length (placed kt xs) ≡ suc (length s₁.stack) = ap length out in omega (arith, both, placed_length kt xs)

      grown : grow K p xs ≡ placed ku (placed kt xs)
      grown =
          grow_both G X F p part (flag t) (flag u) xs stands.ordered (free fr false) (free fr true) (flag_other t u ht eu)
          ∙ ap₂ (λ (i j : Key). placed i (placed j xs)) (sym eku) (sym ekt)

      ahead : key_before kt ku ≡ true
      ahead = ap₂ key_before ekt eku ∙ leads q t u eq et ht eu

      before : (path_key r ≡ kt) ⊎ (key_before (path_key r) kt ≡ true) → key_before (path_key r) ku ≡ true
      before (inl e) = subst⁻¹ (λ (z : Key). key_before z ku ≡ true) e ahead
      before (inr e) = key_order.transitive (path_key r) kt ku e ahead

      count : length (grow K p xs) ≡ k + 2
      count = ap length grown ∙ placed_length ku (placed kt xs) ∙ ap suc (placed_length kt xs) ∙ two
        where
          two : suc (suc k) ≡ k + 2
          two = omega arith

      crowd : eqb k 63 ≡ crowded K 64 (grow K p xs)
      crowd = two (eqb k 63) refl ∙ ap (ltb 64) (sym count)
        where
          two : (c : Bool) → eqb k 63 ≡ c → eqb k 63 ≡ ltb 64 (k + 2)
          two true e = e ∙ sym (lt-ltb 64 (k + 2) (omega (arith, eqb-true k 63 e)))
          two false e = e ∙ sym (le-ltb 64 (k + 2) (omega (arith, eqb-false k 63 e)))

  module _ (u v : ℕ) (eu : u ≡ parity x₁ (p.bits * 2)) (ev : v ≡ parity y₁ (p.bits * 2)) (hu : u < 2) (hv : v < 2) where
    lets : (t : ℕ) → t < 2 → X (G (flag t) p) ≡ let_in (eqb x₁ 0) (eqb y₁ 0) u v t
    lets = passes n soft left right table g p lt gp (λ j. p) (λ j. p) 0 (λ j h. absurd (omega arith)) u v eu ev hu hv

    pub stepped_dead : (s : Bounded Key) (r : Option Path) → (not (eqb x₁ 0) && (not (eqb y₁ 0) && not (eqb u v))) ≡ true → First xs s.stack r → s.any_pushed_out ≡ lost → Stepped K n (bounded xs lost) s p r
    stepped_dead s r apart o same =
        let d = dead_in (eqb x₁ 0) (eqb y₁ 0) u v hu hv apart in
        subst⁻¹ (λ (b : Bool). Stepped K n (bounded xs lost) (bounded s.stack b) p r) same (stepped_out s.stack r (grow_none G X F p part xs (lets 0 (omega arith) ∙ d.0) (lets 1 (omega arith) ∙ d.1)) o)

    pub stepped_one : (s : Bounded Key) (t : ℕ) (kt : Key) (r : Path) → (eqb x₁ 0 && eqb y₁ 0) ≡ false → (not (eqb x₁ 0) && (not (eqb y₁ 0) && not (eqb u v))) ≡ false → t ≡ cond (eqb u 0) v 1
        → kt ≡ G (flag t) p → placed kt xs ≡ path_key r ∷ s.stack → s.any_pushed_out ≡ lost → Stepped K n (bounded xs lost) s p (Some r)
    stepped_one s t kt r some apart et ek out same =
        let fits = room (grow K p xs) (omega (arith, ap length grown, placed_length kt xs, stands.few)) in
        stepped s.stack s.any_pushed_out r (same ∙ fits.0) (fits.1 ∙ grown ∙ out)
      where
        grown : grow K p xs ≡ placed kt xs
        grown =
            let one = asked_in x₁ y₁ p.bits u v t eu ev hu hv some apart et in
            grow_one G X F p part (flag t) (flag (1 - t)) xs (lets t one.0 ∙ one.1) (lets (1 - t) (omega arith) ∙ one.2) (flag_other t (1 - t) one.0 refl)
            ∙ ap (λ (z : Key). placed z xs) (sym ek)

  -- the extensions crowd exactly where 63 are there and both exist
  pub crowded_is : crowded K 64 (grow K p xs) ≡ (eqb k 63 && (eqb x₁ 0 && eqb y₁ 0))
  unfolding crowded parity
  crowded_is = go (eqb k 63) refl (eqb x₁ 0 && eqb y₁ 0) refl
    where
      hu : parity x₁ (p.bits * 2) < 2
      hu = omega arith

      hv : parity y₁ (p.bits * 2) < 2
      hv = omega arith

      both : (eqb x₁ 0 && eqb y₁ 0) ≡ true → length (grow K p xs) ≡ k + 2
      both h = ap length (grow_both G X F p part true false xs stands.ordered (free h false) (free h true) true≢false) ∙ placed_length (G false p) (placed (G true p) xs) ∙ ap suc (placed_length (G true p) xs) ∙ two
        where
          two : suc (suc k) ≡ k + 2
          two = omega arith

      one_at_most : (eqb x₁ 0 && eqb y₁ 0) ≡ false → length (grow K p xs) ≤ k + 1
      one_at_most h = cases (not (eqb x₁ 0) && (not (eqb y₁ 0) && not (eqb (parity x₁ (p.bits * 2)) (parity y₁ (p.bits * 2))))) refl
        where
          cases : (c : Bool) → (not (eqb x₁ 0) && (not (eqb y₁ 0) && not (eqb (parity x₁ (p.bits * 2)) (parity y₁ (p.bits * 2))))) ≡ c → length (grow K p xs) ≤ k + 1
          cases true e =
              let d = dead_in (eqb x₁ 0) (eqb y₁ 0) (parity x₁ (p.bits * 2)) (parity y₁ (p.bits * 2)) hu hv e in
              omega (
                arith,
                ap length (grow_none G X F p part xs (lets (parity x₁ (p.bits * 2)) (parity y₁ (p.bits * 2)) refl refl hu hv 0 (omega arith) ∙ d.0) (lets (parity x₁ (p.bits * 2)) (parity y₁ (p.bits * 2)) refl refl hu hv 1 (omega arith) ∙ d.1)),
              )
          cases false e =
              let one = cond (eqb (parity x₁ (p.bits * 2)) 0) (parity y₁ (p.bits * 2)) 1 in
              let o = asked_in x₁ y₁ p.bits (parity x₁ (p.bits * 2)) (parity y₁ (p.bits * 2)) one refl refl hu hv h e refl in
              omega (
                arith,
                ap length (grow_one G X F p part (flag one) (flag (1 - one)) xs (lets (parity x₁ (p.bits * 2)) (parity y₁ (p.bits * 2)) refl refl hu hv one o.0 ∙ o.1) (lets (parity x₁ (p.bits * 2)) (parity y₁ (p.bits * 2)) refl refl hu hv (1 - one) (omega arith) ∙ o.2) (flag_other one (1 - one) o.0 refl)),
                placed_length (G (flag one) p) xs,
              )

      go : (c : Bool) → eqb k 63 ≡ c → (d : Bool) → (eqb x₁ 0 && eqb y₁ 0) ≡ d → ltb 64 (length (grow K p xs)) ≡ (c && d)
      go false e d h = le-ltb 64 (length (grow K p xs)) (omega (arith, grow_length K p xs, eqb-false k 63 e))
      go true e true h = lt-ltb 64 (length (grow K p xs)) (omega (arith, both h, eqb-true k 63 e))
      go true e false h = le-ltb 64 (length (grow K p xs)) (omega (arith, one_at_most h, eqb-true k 63 e))
