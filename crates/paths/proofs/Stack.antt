-- The stack: what it holds after nodes went in, how many, and in which order. Assumes nothing.
use mathlib.Core.Bool.{Bool, true, false, cond}
use mathlib.Core.List.{List, [], ◌∷◌}
use mathlib.Core.Logic.{◌⊎◌, inl, inr, ⊎_elim}
use mathlib.Core.Path.{◌≡◌, refl, ap, ◌∙◌, subst⁻¹}
use Prim.Native.Nat.{suc, ◌+◌, ◌≤◌}
use native.Mathlib.Omega.{arith}
use lib.ListN.{length}
use Rattle.paths.specs.Lists.{Mem}
use Rattle.paths.specs.Paths.{Path}
use Rattle.paths.specs.Order.{Order}
use Rattle.paths.specs.Stack.{Nodes, Sorted, insert, push, extend, grow}
use Rattle.paths.specs.Tree.{Tree, nodes}
use Rattle.paths.proofs.Booleans.{not_both}
use Rattle.paths.proofs.Prefixes.{bits_differ}

module _ {A : Type 0} (N : Nodes A) where
  of_insert : (x : A) (stack : List A) (z : A) → Mem z (insert N x stack) → (z ≡ x) ⊎ Mem z stack
  unfolding insert
  of_insert x [] z m = m
  of_insert x (y ∷ stack) z m = go (N.before y x) m (of_insert x stack z)
    where
      go : (b : Bool) → Mem z (cond b (y ∷ insert N x stack) (x ∷ y ∷ stack)) → (Mem z (insert N x stack) → (z ≡ x) ⊎ Mem z stack) → (z ≡ x) ⊎ Mem z (y ∷ stack)
      go true (inl e) ih = inr (inl e)
      go true (inr m) ih = ⊎_elim (λ e. inl e) (λ k. inr (inr k)) (ih m)
      go false m ih = m

  in_insert : (x : A) (stack : List A) (z : A) → (z ≡ x) ⊎ Mem z stack → Mem z (insert N x stack)
  unfolding insert
  in_insert x [] z m = m
  in_insert x (y ∷ stack) z m = go (N.before y x) m (in_insert x stack z)
    where
      go : (b : Bool) → (z ≡ x) ⊎ Mem z (y ∷ stack) → ((z ≡ x) ⊎ Mem z stack → Mem z (insert N x stack)) → Mem z (cond b (y ∷ insert N x stack) (x ∷ y ∷ stack))
      go true (inl e) ih = inr (ih (inl e))
      go true (inr (inl e)) ih = inl e
      go true (inr (inr k)) ih = inr (ih (inr k))
      go false m ih = m

  pub insert_length : (x : A) (stack : List A) → length (insert N x stack) ≡ suc (length stack)
  unfolding insert
  insert_length x [] = refl
  insert_length x (y ∷ stack) = go (N.before y x) (insert_length x stack)
    where
      go : (b : Bool) → length (insert N x stack) ≡ suc (length stack) → length (cond b (y ∷ insert N x stack) (x ∷ y ∷ stack)) ≡ suc (suc (length stack))
      go true ih = ap suc ih
      go false ih = refl

  of_push : (x : A) (stack : List A) (z : A) → Mem z (push N x stack) → ((z ≡ x) × (N.exists x ≡ true)) ⊎ Mem z stack
  unfolding push
  of_push x stack z m = go (N.exists x) refl m
    where
      go : (b : Bool) → N.exists x ≡ b → Mem z (cond b (insert N x stack) stack) → ((z ≡ x) × (N.exists x ≡ true)) ⊎ Mem z stack
      go true e m = ⊎_elim (λ k. inl ((k, e))) (λ k. inr k) (of_insert x stack z m)
      go false e m = inr m

  in_push : (x : A) (stack : List A) (z : A) → ((z ≡ x) × (N.exists x ≡ true)) ⊎ Mem z stack → Mem z (push N x stack)
  unfolding push
  in_push x stack z m = go (N.exists x) refl m
    where
      go : (b : Bool) → N.exists x ≡ b → ((z ≡ x) × (N.exists x ≡ true)) ⊎ Mem z stack → Mem z (cond b (insert N x stack) stack)
      go true e m = in_insert x stack z (⊎_elim (λ k. inl k.0) (λ k. inr k) m)
      go false e (inl k) = absurd (not_both (N.exists x) e k.1)
      go false e (inr k) = k

  pub push_length : (x : A) (stack : List A) → length (push N x stack) ≤ suc (length stack)
  unfolding push
  push_length x stack = go (N.exists x)
    where
      go : (b : Bool) → length (cond b (insert N x stack) stack) ≤ suc (length stack)
      go true = omega (arith, insert_length x stack)
      go false = omega arith

  pub push_keeps_length : (x : A) (stack : List A) → length stack ≤ length (push N x stack)
  unfolding push
  push_keeps_length x stack = go (N.exists x)
    where
      go : (b : Bool) → length stack ≤ length (cond b (insert N x stack) stack)
      go true = omega (arith, insert_length x stack)
      go false = omega arith

  push_none : (x : A) (stack : List A) → N.exists x ≡ false → push N x stack ≡ stack
  unfolding push
  push_none x stack e = rw e

  -- after the extensions of x went in, the stack holds those that exist and what was there
  pub of_extend : (x : A) (stack : List A) (z : A) → Mem z (extend N x stack) → ((b : Bool) × (z ≡ N.extension b x) × (N.exists z ≡ true)) ⊎ Mem z stack
  unfolding extend
  of_extend x stack z m =
      ⊎_elim (new true) (λ k. ⊎_elim (new false) (λ j. inr j) (of_push (N.extension false x) stack z k))
      (of_push (N.extension true x) (push N (N.extension false x) stack) z m)
    where
      new : (b : Bool) → (z ≡ N.extension b x) × (N.exists (N.extension b x) ≡ true) → ((b : Bool) × (z ≡ N.extension b x) × (N.exists z ≡ true)) ⊎ Mem z stack
      new b k = inl ((b, k.0, subst⁻¹ (λ (u : A). N.exists u ≡ true) k.0 k.1))

  pub in_extend : (b : Bool) (x : A) (stack : List A) → N.exists (N.extension b x) ≡ true → Mem (N.extension b x) (extend N x stack)
  unfolding extend
  in_extend true x stack e = in_push (N.extension true x) (push N (N.extension false x) stack) (N.extension true x) (inl ((refl, e)))
  in_extend false x stack e =
      in_push (N.extension true x) (push N (N.extension false x) stack) (N.extension false x)
      (inr (in_push (N.extension false x) stack (N.extension false x) (inl ((refl, e)))))

  pub extend_keeps : (x : A) (stack : List A) (z : A) → Mem z stack → Mem z (extend N x stack)
  unfolding extend
  extend_keeps x stack z m = in_push (N.extension true x) (push N (N.extension false x) stack) z (inr (in_push (N.extension false x) stack z (inr m)))

  pub extend_length : (x : A) (stack : List A) → length (extend N x stack) ≤ 2 + length stack
  unfolding extend
  extend_length x stack = omega (arith, push_length (N.extension true x) (push N (N.extension false x) stack), push_length (N.extension false x) stack)

  pub extend_none : (x : A) (stack : List A) → ((b : Bool) → N.exists (N.extension b x) ≡ false) → extend N x stack ≡ stack
  unfolding extend
  extend_none x stack none =
      push_none (N.extension true x) (push N (N.extension false x) stack) (none true) ∙ push_none (N.extension false x) stack (none false)

  pub grow_length : (x : A) (rest : List A) → length (grow N x rest) ≤ 2 + length rest
  unfolding grow
  grow_length x rest = go (N.full x)
    where
      go : (b : Bool) → length (cond b rest (extend N x rest)) ≤ 2 + length rest
      go true = omega arith
      go false = extend_length x rest

-- ---- the order of the stack

module _ (t : Tree) (order : Order t.before) where
  insert_sorted : (p : Path) (stack : List Path) → (Mem p stack → ⊥) → Sorted t.before stack → Sorted t.before (insert (nodes t) p stack)
  unfolding insert
  insert_sorted p [] n s = (λ y m. absurd m, tt)
  insert_sorted p (q ∷ stack) n s = go (t.before q p) refl (insert_sorted p stack (λ k. n (inr k)) s.1)
    where
      leads : t.before p q ≡ true → (z : Path) → Mem z (q ∷ stack) → t.before p z ≡ true
      leads e z (inl k) = subst⁻¹ (λ (u : Path). t.before p u ≡ true) k e
      leads e z (inr k) = order.transitive p q z e (s.0 z k)

      go : (b : Bool) → t.before q p ≡ b → Sorted t.before (insert (nodes t) p stack) → Sorted t.before (cond b (q ∷ insert (nodes t) p stack) (p ∷ q ∷ stack))
      go true e ih = (λ z m. ⊎_elim (λ k. subst⁻¹ (λ (u : Path). t.before q u ≡ true) k e) (λ k. s.0 z k) (of_insert (nodes t) p stack z m), ih)
      go false e ih =
          (leads (⊎_elim (λ k. absurd (n (inl k))) (⊎_elim (λ k. k) (λ k. absurd (not_both (t.before q p) e k))) (order.total p q)), s)

  push_sorted : (p : Path) (stack : List Path) → (Mem p stack → ⊥) → Sorted t.before stack → Sorted t.before (push (nodes t) p stack)
  unfolding push
  push_sorted p stack n s = go (t.exists p)
    where
      go : (b : Bool) → Sorted t.before (cond b (insert (nodes t) p stack) stack)
      go true = insert_sorted p stack n s
      go false = s

  pub extend_sorted : (p : Path) (stack : List Path) → ((b : Bool) → Mem (b ∷ p) stack → ⊥) → Sorted t.before stack → Sorted t.before (extend (nodes t) p stack)
  unfolding extend
  extend_sorted p stack n s =
      push_sorted (true ∷ p) (push (nodes t) (false ∷ p) stack)
      (λ m. ⊎_elim (λ k. bits_differ p k.0) (n true) (of_push (nodes t) (false ∷ p) stack (true ∷ p) m))
      (push_sorted (false ∷ p) stack (n false) s)
