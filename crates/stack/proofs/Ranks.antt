-- The order of keys is the order of their ranks, and the first of a span of places. Assumes nothing.
use Prim.Native.Nat.{ℕ, ◌+◌, ◌-◌, ◌*◌, ◌%◌, ◌≤◌, ◌<◌}
use native.Mathlib.Omega.{arith}
use mathlib.Core.Bool.{Bool, true, false, cond}
use mathlib.Core.Logic.{◌⊎◌, inl, inr}
use mathlib.Core.Path.{◌≡◌, refl, sym, ◌∙◌, subst⁻¹}
use lib.IntN.{ℤ, pos, negsuc}
use lib.Signed.{lt_z}
use lib.Dec.{ltb}
use borrow.Author.Tests.{ltb-true, ltb-false, lt-ltb, le-ltb}
use mir.Syntax.{w16}
use mir.Val.{SFits}
use Rattle.stack.specs.Places.{lifted, rank_of, Fit, Span, Lead}
use Rattle.trellis.specs.Order.{first_by}
use Rattle.trellis.specs.Keys.{Key, key_before}

-- two tests that say the same
same_test : (a b c d : ℕ) → (a < b → c < d) → (b ≤ a → d ≤ c) → ltb a b ≡ ltb c d
same_test a b c d f g = go (ltb a b) refl
  where
    go : (t : Bool) → ltb a b ≡ t → t ≡ ltb c d
    go true e = sym (lt-ltb c d (f (ltb-true a b e)))
    go false e = sym (le-ltb c d (g (ltb-false a b e)))

lift_before : (a b : ℤ) → SFits w16 a → SFits w16 b → lt_z a b ≡ ltb (lifted a) (lifted b)
lift_before (pos m) (pos n) f g = same_test m n (m + 32768) (n + 32768) (λ h. omega arith) (λ h. omega arith)
lift_before (pos m) (negsuc n) f g = sym (le-ltb (m + 32768) (32767 - n) (omega arith))
lift_before (negsuc m) (pos n) f g = sym (lt-ltb (32767 - m) (n + 32768) (omega arith))
lift_before (negsuc m) (negsuc n) f g = same_test n m (32767 - m) (32767 - n) (λ h. omega (arith, f.sfits, g.sfits)) (λ h. omega (arith, f.sfits, g.sfits))

pub rank_before : (p q : Key) → Fit p → Fit q → ltb (rank_of p) (rank_of q) ≡ key_before q p
unfolding rank_of key_before
rank_before p q fp fq =
    go (lt_z p.sum q.sum) refl (lt_z q.sum p.sum) refl (ltb p.len q.len) refl (ltb q.len p.len) refl
  where
    up : lt_z p.sum q.sum ≡ true → lifted p.sum < lifted q.sum
    up e = ltb-true _ _ (sym (lift_before p.sum q.sum fp.sum fq.sum) ∙ e)

    up' : lt_z p.sum q.sum ≡ false → lifted q.sum ≤ lifted p.sum
    up' e = ltb-false _ _ (sym (lift_before p.sum q.sum fp.sum fq.sum) ∙ e)

    dn : lt_z q.sum p.sum ≡ true → lifted q.sum < lifted p.sum
    dn e = ltb-true _ _ (sym (lift_before q.sum p.sum fq.sum fp.sum) ∙ e)

    dn' : lt_z q.sum p.sum ≡ false → lifted p.sum ≤ lifted q.sum
    dn' e = ltb-false _ _ (sym (lift_before q.sum p.sum fq.sum fp.sum) ∙ e)

    A : ℕ
    A = (lifted p.sum * 64 + p.len % 64) * 4398046511104 + (4398046511103 - p.bits % 4398046511104)

    B : ℕ
    B = (lifted q.sum * 64 + q.len % 64) * 4398046511104 + (4398046511103 - q.bits % 4398046511104)

    go : (a : Bool) → lt_z p.sum q.sum ≡ a → (b : Bool) → lt_z q.sum p.sum ≡ b
        → (c : Bool) → ltb p.len q.len ≡ c → (d : Bool) → ltb q.len p.len ≡ d
        → ltb A B ≡ first_by a b (first_by c d (ltb q.bits p.bits))
    go true ea b eb c ec d ed = lt-ltb A B (omega (arith, up ea, fp.small.len, fq.small.len, fp.small.bits, fq.small.bits))
    go false ea true eb c ec d ed = le-ltb A B (omega (arith, dn eb, fp.small.len, fq.small.len, fp.small.bits, fq.small.bits))
    go false ea false eb true ec d ed = lt-ltb A B (omega (arith, up' ea, dn' eb, ltb-true p.len q.len ec, fp.small.len, fq.small.len, fp.small.bits, fq.small.bits))
    go false ea false eb false ec true ed = le-ltb A B (omega (arith, up' ea, dn' eb, ltb-true q.len p.len ed, fp.small.len, fq.small.len, fp.small.bits, fq.small.bits))
    go false ea false eb false ec false ed =
        let es : lifted p.sum ≡ lifted q.sum = omega (arith, up' ea, dn' eb) in
        let el : p.len ≡ q.len = omega (arith, ltb-false p.len q.len ec, ltb-false q.len p.len ed) in
        same_test A B q.bits p.bits (λ h. omega (arith, es, el, fp.small.bits, fq.small.bits)) (λ h. omega (arith, es, el, fp.small.bits, fq.small.bits))

pub span_join : (f : ℕ → Key) (a b c i j r s : ℕ) → Span f a b i r → Span f b c j s → Span f a c (cond (ltb r s) j i) (cond (ltb r s) s r)
span_join f a b c i j r s p q = go (ltb r s) refl
  where
    go : (t : Bool) → ltb r s ≡ t → Span f a c (cond t j i) (cond t s r)
    go true e = record {
      low = omega (arith, p.low, p.high, q.low);
      high = q.high;
      is = q.is;
      fit = λ k h l. fits k h l (ltb k b) refl;
      most = λ k h l. most k h l (ltb k b) refl;
    }
      where
        fits : (k : ℕ) → a ≤ k → k < c → (t : Bool) → ltb k b ≡ t → Fit (f k)
        fits k h l true e = p.fit k h (ltb-true k b e)
        fits k h l false e = q.fit k (ltb-false k b e) l

        most : (k : ℕ) → a ≤ k → k < c → (t : Bool) → ltb k b ≡ t → rank_of (f k) ≤ s
        most k h l true z = omega (arith, p.most k h (ltb-true k b z), ltb-true r s e)
        most k h l false z = q.most k (ltb-false k b z) l
    go false e = record {
      low = p.low;
      high = omega (arith, p.high, q.low, q.high);
      is = p.is;
      fit = λ k h l. fits k h l (ltb k b) refl;
      most = λ k h l. most k h l (ltb k b) refl;
    }
      where
        fits : (k : ℕ) → a ≤ k → k < c → (t : Bool) → ltb k b ≡ t → Fit (f k)
        fits k h l true e = p.fit k h (ltb-true k b e)
        fits k h l false e = q.fit k (ltb-false k b e) l

        most : (k : ℕ) → a ≤ k → k < c → (t : Bool) → ltb k b ≡ t → rank_of (f k) ≤ r
        most k h l true z = p.most k h (ltb-true k b z)
        most k h l false z = omega (arith, q.most k (ltb-false k b z) l, ltb-false r s e)

-- joined as the code does it
pub span_code : (f : ℕ → Key) (a b b' c i j r s k t : ℕ) → Span f a b i r → Span f b' c j s → b ≡ b' → k ≡ cond (ltb r s) j i → t ≡ cond (ltb r s) s r → Span f a c k t
span_code f a b b' c i j r s k t p q eb ek et =
    subst⁻¹ (λ (x : ℕ). Span f a c x t) ek (subst⁻¹ (λ (x : ℕ). Span f a c (cond (ltb r s) j i) x) et (span_join f a b c i j r s p (subst⁻¹ (λ (x : ℕ). Span f x c j s) eb q)))

pub span_lead : (f : ℕ → Key) (n c e i r : ℕ) → Span f c e i r → e ≤ n → e ≤ c + 4 → (n ≤ e) ⊎ (c + 4 ≤ e) → Lead f n c i r
span_lead f n c e i r p en ec full =
    record {
      low = p.low;
      high = omega (arith, p.high);
      near = omega (arith, p.high);
      fit = p.fit i p.low p.high;
      is = p.is;
      first = λ j h k l. first j h (within j k l full);
    }
  where
    within : (j : ℕ) → j < n → j < c + 4 → (n ≤ e) ⊎ (c + 4 ≤ e) → j < e
    within j h k (inl z) = omega arith
    within j h k (inr z) = omega arith

    first : (j : ℕ) → c ≤ j → j < e → key_before (f j) (f i) ≡ false
    first j h k =
        sym (rank_before (f i) (f j) (p.fit i p.low p.high) (p.fit j h k)) ∙ le-ltb (rank_of (f i)) (rank_of (f j)) (omega (arith, p.most j h k, p.is))
