-- When a full path is at the head of the stack, the paths taken are the other existing paths that are its prefixes or ahead of it. Assumes nothing.
use mathlib.Core.List.{List, ◌∷◌}
use mathlib.Core.Logic.{◌⊎◌, inl, inr, ⊎_elim}
use mathlib.Core.Path.{◌≡◌, refl, subst, subst⁻¹}
use native.Mathlib.Omega.{arith}
use Rattle.paths.specs.Lists.{Mem}
use Rattle.paths.specs.Paths.{Path}
use Rattle.paths.specs.Order.{Ahead}
use Rattle.paths.specs.Tree.{Tree, Exists, Full, Sound}
use Rattle.paths.proofs.Prefixes.{Prefix, prefix_dec, mem_dec, prefix_self, prefix_whole}
use Rattle.paths.proofs.Ahead.{last_apart, ahead_is, is_ahead, last_apart_in, before_last_apart}
use Rattle.paths.proofs.Invariant.{Leads, Invariant, head_leads}

module _ (t : Tree) (sound : Sound t) where
  -- a full path is a prefix of no other existing path
  pub full_ends : (w p : Path) → Full t w → Exists t p → Prefix w p → w ≡ p
  full_ends w p f x h = prefix_whole w p h (omega (arith, f.long, sound.short p x.in_tree))

  module _ (taken rest : List Path) (w : Path) (i : Invariant t taken (w ∷ rest)) (f : Full t w) where
    outside : (p : Path) → Exists t p → (Prefix p w → ⊥) → Prefix w p → ⊥
    outside p x n k = n (subst (λ (u : Path). Prefix u w) (full_ends w p f x k) (prefix_self w f.there.some_bit))

    pub taken_is : (p : Path) → Mem p (w ∷ taken) → Prefix p w ⊎ Ahead t.before p w
    taken_is p (inl e) = inl (subst⁻¹ (λ (u : Path). Prefix u w) e (prefix_self w f.there.some_bit))
    taken_is p (inr m) = go (prefix_dec p w)
      where
        ahead_of : (Prefix p w → ⊥) → Ahead t.before p w
        ahead_of n =
            let q = last_apart t.before p w in
            let l = last_apart_in t.before sound.order p w (i.there p (inl m)).some_bit n in
            let qm : Mem q taken = ⊎_elim (λ (e : q ≡ p). subst⁻¹ (λ (u : Path). Mem u taken) e m) (λ (k : Mem q taken). k) (i.below p q (inl m) l.0) in
            is_ahead t.before p w n
            (⊎_elim (λ k. absurd (l.1 k))
            (λ k. before_last_apart t.before sound.order p w q k.0 l.0 l.1 k.1 k.3 k.2)
            (i.leads q w qm f.there (i.apart w (inl refl))))

        go : Dec (Prefix p w) → Prefix p w ⊎ Ahead t.before p w
        go (yes k) = inl k
        go (no k) = inr (ahead_of k)

    pub is_taken : (p : Path) → Exists t p → Prefix p w ⊎ Ahead t.before p w → Mem p (w ∷ taken)
    is_taken p x (inl k) = i.below w p (inr (inl refl)) k
    is_taken p x (inr a) = go (mem_dec p (w ∷ taken))
      where
        clash : (Mem p (w ∷ taken) → ⊥) → ⊥
        clash n =
            let q = last_apart t.before w p in
            let h = ahead_is t.before p w a in
            let l = last_apart_in t.before sound.order w p f.there.some_bit (outside p x h.0) in
            let found : Leads t q p =
            ⊎_elim (λ (e : q ≡ w). subst⁻¹ (λ (u : Path). Leads t u p) e (head_leads t sound taken rest w i p x (λ m. n (inr m))))
            (λ (k : Mem q taken). i.leads q p k x (λ m. n (inr m)))
            (i.below w q (inr (inl refl)) l.0) in
            ⊎_elim (λ k. l.1 k)
            (λ k. sound.order.irreflexive q
            (sound.order.transitive q (last_apart t.before p w) q (before_last_apart t.before sound.order w p q k.0 l.0 l.1 k.1 k.3 k.2) h.1))
            found

        go : Dec (Mem p (w ∷ taken)) → Mem p (w ∷ taken)
        go (yes m) = m
        go (no n) = absurd (clash n)
