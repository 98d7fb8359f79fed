-- What holds of the paths taken and the stack after any number of steps. Assumes nothing.
use mathlib.Core.Bool.{Bool, true, false, cond}
use mathlib.Core.List.{List, [], ◌∷◌}
use mathlib.Core.Logic.{◌⊎◌, inl, inr, ⊎_elim}
use mathlib.Core.Path.{◌≡◌, refl, sym, ap, ◌∙◌, subst, subst⁻¹}
use Prim.Native.Nat.{ℕ, zero, suc}
use native.Mathlib.Omega.{arith}
use lib.Dec.{eqb}
use borrow.Author.Tests.{eqb-true}
use lib.ListN.{length}
use Rattle.paths.specs.Lists.{Mem, NoRepeats}
use Rattle.paths.specs.Paths.{Path}
use Rattle.paths.specs.Stack.{Sorted, extend, grow}
use Rattle.paths.specs.Tree.{Tree, is_full, nodes, Exists, Sound}
use Rattle.paths.specs.Search.{State, start, take_head, step, steps, after}
use Rattle.paths.proofs.Booleans.{is_false}
use Rattle.paths.proofs.Prefixes.{Prefix, prefix_self, prefix_next, prefix_first, longer_differs}
use Rattle.paths.proofs.Stack.{of_extend, in_extend, extend_keeps, extend_none, extend_sorted}

-- q is a prefix of w, or stands before some prefix of w that is no prefix of q
abbrev pub Leads : Tree → Path → Path → Type 0
Leads t q w = Prefix q w ⊎ ((r : Path) × Prefix r w × (t.before q r ≡ true) × (Prefix r q → ⊥))

-- what holds of the paths taken and of a stack, also of one that was cut
pub record Stacked (t : Tree) (taken stack : List Path) : Type 0 where
  pub sorted : Sorted t.before stack
  pub apart : (q : Path) → Mem q stack → Mem q taken → ⊥
  pub there : (q : Path) → Mem q taken ⊎ Mem q stack → Exists t q
  -- the shorter prefixes of a path taken or stacked are taken
  pub below : (q r : Path) → Mem q taken ⊎ Mem q stack → Prefix r q → (r ≡ q) ⊎ Mem r taken

pub record Invariant (t : Tree) (taken stack : List Path) : Type 0 where
  pub sorted : Sorted t.before stack
  pub once : NoRepeats taken
  pub apart : (q : Path) → Mem q stack → Mem q taken → ⊥
  pub there : (q : Path) → Mem q taken ⊎ Mem q stack → Exists t q
  -- the shorter prefixes of a path taken or stacked are taken
  pub below : (q r : Path) → Mem q taken ⊎ Mem q stack → Prefix r q → (r ≡ q) ⊎ Mem r taken
  -- a path that is not taken has a prefix on the stack
  pub frontier : (w : Path) → Exists t w → Mem w taken ⊎ ((r : Path) × Prefix r w × Mem r stack)
  -- history without times: each path taken leads each path not taken
  pub leads : (q w : Path) → Mem q taken → Exists t w → (Mem w taken → ⊥) → Leads t q w

module _ (t : Tree) (sound : Sound t) where
  pub prefix_exists : (r w : Path) → Prefix r w → Exists t w → Exists t r
  prefix_exists r [] x3 x = elim x3 [ ]
  prefix_exists r (b ∷ []) (inr h) x = elim h [ ]
  prefix_exists r (b ∷ []) (inl e) x = subst⁻¹ (λ (p : Path). Exists t p) e x
  prefix_exists r (b ∷ c ∷ w) (inl e) x = subst⁻¹ (λ (p : Path). Exists t p) e x
  prefix_exists r (b ∷ c ∷ w) (inr h) x = prefix_exists r (c ∷ w) h (record { some_bit = omega arith; in_tree = sound.parents b c w x.in_tree })

  -- the head of the stack leads each path not taken
  pub head_leads : (taken rest : List Path) (p : Path) → Invariant t taken (p ∷ rest) → (w : Path) → Exists t w → (Mem w taken → ⊥) → Leads t p w
  head_leads taken rest p i w x n = ⊎_elim (λ m. absurd (n m)) (λ k. go k.0 k.1 k.2) (i.frontier w x)
    where
      go : (r : Path) → Prefix r w → (r ≡ p) ⊎ Mem r rest → Leads t p w
      go r h (inl e) = inl (subst (λ (u : Path). Prefix u w) e h)
      go r h (inr m) =
          inr ((
            r,
            h,
            i.sorted.0 r m,
            λ j. ⊎_elim (λ e. sound.order.irreflexive p (subst (λ (u : Path). t.before p u ≡ true) e (i.sorted.0 r m))) (i.apart r (inr m)) (i.below p r (inr (inl refl)) j),
          ))

  -- p is taken, and of what was left and its existing extensions some stand on the stack, in the order
  module _ (taken rest : List Path) (p : Path) (i : Stacked t taken (p ∷ rest)) where
    -- no extension of p was taken or stacked before
    new : (b : Bool) → Mem (b ∷ p) taken ⊎ Mem (b ∷ p) (p ∷ rest) → ⊥
    new b m = ⊎_elim (longer_differs b p) (i.apart p (inl refl)) (i.below (b ∷ p) p m (inr (prefix_self p (i.there p (inr (inl refl))).some_bit)))

    pub extended_sorted : Sorted t.before (extend (nodes t) p rest)
    extended_sorted = extend_sorted t sound.order p rest (λ b m. new b (inr (inr m))) i.sorted.1

    pub stacked_next : (stack : List Path) → Sorted t.before stack → ((q : Path) → Mem q stack → Mem q (extend (nodes t) p rest)) → Stacked t (p ∷ taken) stack
    stacked_next stack sorted some =
        record {
          sorted = sorted;
          apart = λ q m. apart' q (of_extend (nodes t) p rest q (some q m));
          there = there';
          below = below';
        }
      where
        apart' : (q : Path) → ((b : Bool) × (q ≡ b ∷ p) × (t.exists q ≡ true)) ⊎ Mem q rest → Mem q (p ∷ taken) → ⊥
        apart' q (inl (b, e, x)) (inl j) = longer_differs b p (sym j ∙ e)
        apart' q (inl (b, e, x)) (inr j) = new b (inl (subst (λ (u : Path). Mem u taken) e j))
        apart' q (inr k) (inl j) = sound.order.irreflexive p (subst (λ (u : Path). t.before p u ≡ true) j (i.sorted.0 q k))
        apart' q (inr k) (inr j) = i.apart q (inr k) j

        there' : (q : Path) → Mem q (p ∷ taken) ⊎ Mem q stack → Exists t q
        there' q (inl (inl k)) = i.there q (inr (inl k))
        there' q (inl (inr k)) = i.there q (inl k)
        there' q (inr m) = ⊎_elim (λ k. record { some_bit = omega (arith, ap length k.1); in_tree = k.2 }) (λ k. i.there q (inr (inr k))) (of_extend (nodes t) p rest q (some q m))

        more : (r q : Path) → (r ≡ q) ⊎ Mem r taken → (r ≡ q) ⊎ Mem r (p ∷ taken)
        more r q = ⊎_elim (λ k. inl k) (λ k. inr (inr k))

        below_stacked : (q r : Path) → ((b : Bool) × (q ≡ b ∷ p) × (t.exists q ≡ true)) ⊎ Mem q rest → Prefix r q → (r ≡ q) ⊎ Mem r (p ∷ taken)
        below_stacked q r (inr k) h = more r q (i.below q r (inr (inr k)) h)
        below_stacked q r (inl (b, e, x)) h = two (subst (λ (u : Path). Prefix r u) e h)
          where
            two : (r ≡ b ∷ p) ⊎ Prefix r p → (r ≡ q) ⊎ Mem r (p ∷ taken)
            two (inl j) = inl (j ∙ sym e)
            two (inr j) = inr (i.below p r (inr (inl refl)) j)

        below' : (q r : Path) → Mem q (p ∷ taken) ⊎ Mem q stack → Prefix r q → (r ≡ q) ⊎ Mem r (p ∷ taken)
        below' q r (inl (inl k)) h = more r q (i.below q r (inr (inl k)) h)
        below' q r (inl (inr k)) h = more r q (i.below q r (inl k) h)
        below' q r (inr m) h = below_stacked q r (of_extend (nodes t) p rest q (some q m)) h

  -- the existing paths of one bit, before a path is taken
  pub stacked_first : (stack : List Path) → Sorted t.before stack → ((q : Path) → Mem q stack → Mem q (extend (nodes t) [] [])) → Stacked t [] stack
  stacked_first stack sorted some =
      record {
        sorted = sorted;
        apart = λ q m k. k;
        there = λ q m. ⊎_elim (λ k. absurd k) (λ k. let o = one q k in record { some_bit = omega (arith, ap length o.1); in_tree = o.2 }) m;
        below = λ q r m h. ⊎_elim (λ k. absurd k) (λ k. let o = one q k in inl (only q r o.0 o.1 h)) m;
      }
    where
      one : (q : Path) → Mem q stack → (b : Bool) × (q ≡ b ∷ []) × (t.exists q ≡ true)
      one q m = ⊎_elim (λ k. k) (λ k. absurd k) (of_extend (nodes t) [] [] q (some q m))

      only : (q r : Path) (b : Bool) → q ≡ b ∷ [] → Prefix r q → r ≡ q
      only q r b e h = ⊎_elim (λ k. k ∙ sym e) (λ k. absurd k) (subst (λ (u : Path). Prefix r u) e h)

  pub first_sorted : Sorted t.before (extend (nodes t) [] [])
  first_sorted = extend_sorted t sound.order [] [] (λ b m. m) tt

  pub as_stacked : (taken stack : List Path) → Invariant t taken stack → Stacked t taken stack
  as_stacked taken stack i = record { sorted = i.sorted; apart = i.apart; there = i.there; below = i.below }

  extend_invariant : (taken rest : List Path) (p : Path) → Invariant t taken (p ∷ rest) → Invariant t (p ∷ taken) (extend (nodes t) p rest)
  extend_invariant taken rest p i =
      record {
        sorted = next.sorted;
        once = (i.apart p (inl refl), i.once);
        apart = next.apart;
        there = next.there;
        below = next.below;
        frontier = λ w x. ⊎_elim (λ m. inl (inr m)) (λ k. frontier' w x k.0 k.1 k.2) (i.frontier w x);
        leads = leads';
      }
    where
      before : Stacked t taken (p ∷ rest)
      before = as_stacked taken (p ∷ rest) i

      next : Stacked t (p ∷ taken) (extend (nodes t) p rest)
      next = stacked_next taken rest p before (extend (nodes t) p rest) (extended_sorted taken rest p before) (λ q m. m)

      frontier' : (w : Path) → Exists t w → (r : Path) → Prefix r w → (r ≡ p) ⊎ Mem r rest → Mem w (p ∷ taken) ⊎ ((r : Path) × Prefix r w × Mem r (extend (nodes t) p rest))
      frontier' w x r h (inr k) = inr ((r, h, extend_keeps (nodes t) p rest r k))
      frontier' w x r h (inl k) =
          ⊎_elim (λ j. inl (inl (sym j)))
          (λ j. inr ((j.0 ∷ p, j.1, in_extend (nodes t) j.0 p rest (prefix_exists (j.0 ∷ p) w j.1 x).in_tree)))
          (prefix_next p w (subst (λ (u : Path). Prefix u w) k h))

      leads' : (q w : Path) → Mem q (p ∷ taken) → Exists t w → (Mem w (p ∷ taken) → ⊥) → Leads t q w
      leads' q w (inr k) x n = i.leads q w k x (λ m. n (inr m))
      leads' q w (inl k) x n = subst⁻¹ (λ (u : Path). Leads t u w) k (head_leads taken rest p i w x (λ m. n (inr m)))

  -- a full path has no existing extensions
  grow_extends : (p : Path) (rest : List Path) → grow (nodes t) p rest ≡ extend (nodes t) p rest
  unfolding grow is_full
  grow_extends p rest = go (eqb (length p) t.size) refl
    where
      none : length p ≡ t.size → (b : Bool) → t.exists (b ∷ p) ≡ true → ⊥
      none e b x = omega (arith, sound.short (b ∷ p) x)

      go : (b : Bool) → eqb (length p) t.size ≡ b → cond b rest (extend (nodes t) p rest) ≡ extend (nodes t) p rest
      go true e = sym (extend_none (nodes t) p rest (λ b. is_false (t.exists (b ∷ p)) (none (eqb-true (length p) t.size e) b)))
      go false e = refl

  abbrev pub Holds : State → Type 0
  Holds s = Invariant t s.taken s.stack

  pub start_invariant : Holds (start t)
  unfolding start
  start_invariant =
      record {
        sorted = first.sorted;
        once = tt;
        apart = first.apart;
        there = first.there;
        below = first.below;
        frontier = λ w x. let f = prefix_first w x.some_bit in inr ((f.0 ∷ [], f.1, in_extend (nodes t) f.0 [] [] (prefix_exists (f.0 ∷ []) w f.1 x).in_tree));
        leads = λ q w m. absurd m;
      }
    where
      first : Stacked t [] (extend (nodes t) [] [])
      first = stacked_first (extend (nodes t) [] []) first_sorted (λ q m. m)

  take_head_invariant : (taken stack : List Path) → Invariant t taken stack → Holds (take_head t taken stack)
  unfolding take_head
  take_head_invariant taken [] i = i
  take_head_invariant taken (p ∷ rest) i = subst⁻¹ (λ (l : List Path). Invariant t (p ∷ taken) l) (grow_extends p rest) (extend_invariant taken rest p i)

  pub step_invariant : (s : State) → Holds s → Holds (step t s)
  unfolding step
  step_invariant s i = take_head_invariant s.taken s.stack i

  pub steps_invariant : (k : ℕ) (s : State) → Holds s → Holds (steps t k s)
  unfolding steps
  steps_invariant zero s i = i
  steps_invariant (suc k) s i = steps_invariant k (step t s) (step_invariant s i)

  pub after_invariant : (k : ℕ) → Holds (after t k)
  unfolding after
  after_invariant k = steps_invariant k (start t) start_invariant
