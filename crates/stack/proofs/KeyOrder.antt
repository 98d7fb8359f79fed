-- Standing before, or being the same: the order of keys as the heap uses it. Assumes nothing.
use mathlib.Core.Bool.{Bool, true, false, false≢true}
use mathlib.Core.Logic.{⊎_elim}
use mathlib.Core.Path.{◌≡◌, refl, sym, ap, ap₂, ◌∙◌, subst, subst⁻¹}
use lib.Dec.{ltb}
use lib.IntN.{ℤ}
use lib.Signed.{lt_z}
use borrow.Author.Tests.{ltb-false, le-ltb}
use native.Mathlib.Omega.{arith}
use Rattle.trellis.specs.Order.{first_by}
use Rattle.trellis.proofs.Strict.{strict_int}
use Rattle.trellis.specs.Keys.{Key, key_before}
use Rattle.stack.specs.Places.{Upto}
use Rattle.trellis.proofs.Order.{key_order}

-- two keys with one sum, one length and one number are one
pub key_is : (p q : Key) → (p.sum ≡ q.sum) × ((p.len ≡ q.len) × (p.bits ≡ q.bits)) → p ≡ q
key_is p q e = λ t. record { sum = e.0 t; len = e.1.0 t; bits = e.1.1 t }

pub upto_not : (p q : Key) → key_before p q ≡ true → Upto p q
upto_not p q e = go (key_before q p) refl
  where
    go : (t : Bool) → key_before q p ≡ t → key_before q p ≡ false
    go true k = absurd (key_order.irreflexive p (key_order.transitive p q p e k))
    go false k = k

pub upto_same : (p : Key) → Upto p p
upto_same p = go (key_before p p) refl
  where
    go : (t : Bool) → key_before p p ≡ t → key_before p p ≡ false
    go true k = absurd (key_order.irreflexive p k)
    go false k = k

pub upto_anti : (p q : Key) → Upto p q → Upto q p → p ≡ q
upto_anti p q a b = ⊎_elim (key_is p q) (⊎_elim (λ k. absurd (false≢true (sym b ∙ k))) (λ k. absurd (false≢true (sym a ∙ k)))) (key_order.total p q)

pub upto_trans : (p q r : Key) → Upto p q → Upto q r → Upto p r
upto_trans p q r a b = ⊎_elim (λ e. subst⁻¹ (λ (x : Key). Upto x r) (key_is p q e) b)
    (⊎_elim
    (λ k. ⊎_elim (λ e. subst (λ (x : Key). Upto p x) (key_is q r e) a) (⊎_elim (λ m. upto_not p r (key_order.transitive p q r k m)) (λ m. absurd (false≢true (sym b ∙ m)))) (key_order.total q r))
    (λ k. absurd (false≢true (sym a ∙ k)))) (key_order.total p q)

pub key_dec : (p q : Key) → Dec (p ≡ q)
key_dec p q =
    ⊎_elim (λ e. yes (key_is p q e))
    (⊎_elim
    (λ k. no (λ e. key_order.irreflexive p (subst⁻¹ (λ (x : Key). key_before p x ≡ true) e k)))
    (λ k. no (λ e. key_order.irreflexive p (subst⁻¹ (λ (x : Key). key_before x p ≡ true) e k)))) (key_order.total p q)

-- ---- the first of sum and length in which two keys differ tells

int_below_same : (x : ℤ) → lt_z x x ≡ false
int_below_same x = go (lt_z x x) refl
  where
    go : (t : Bool) → lt_z x x ≡ t → t ≡ false
    go true e = absurd (strict_int.irreflexive x e)
    go false e = refl

pub by_sum : (p q : Key) → (p.sum ≡ q.sum → ⊥) → key_before p q ≡ lt_z q.sum p.sum
unfolding key_before
by_sum p q ne = go (lt_z q.sum p.sum) refl (lt_z p.sum q.sum) refl
  where
    go : (a : Bool) → lt_z q.sum p.sum ≡ a → (b : Bool) → lt_z p.sum q.sum ≡ b → first_by a b (first_by (ltb q.len p.len) (ltb p.len q.len) (ltb p.bits q.bits)) ≡ a
    go true ea b eb = refl
    go false ea true eb = refl
    go false ea false eb = absurd (⊎_elim ne (⊎_elim (λ k. false≢true (sym eb ∙ k)) (λ k. false≢true (sym ea ∙ k))) (strict_int.total p.sum q.sum))

after_sum : (p q : Key) → p.sum ≡ q.sum → key_before p q ≡ first_by (ltb q.len p.len) (ltb p.len q.len) (ltb p.bits q.bits)
unfolding key_before
after_sum p q e =
    ap₂ (λ (a b : Bool). first_by a b (first_by (ltb q.len p.len) (ltb p.len q.len) (ltb p.bits q.bits)))
    (ap (λ (z : ℤ). lt_z q.sum z) e ∙ int_below_same q.sum) (ap (λ (z : ℤ). lt_z z q.sum) e ∙ int_below_same q.sum)

pub by_len : (p q : Key) → p.sum ≡ q.sum → (p.len ≡ q.len → ⊥) → key_before p q ≡ ltb q.len p.len
by_len p q e ne = after_sum p q e ∙ go (ltb q.len p.len) refl (ltb p.len q.len) refl
  where
    go : (a : Bool) → ltb q.len p.len ≡ a → (b : Bool) → ltb p.len q.len ≡ b → first_by a b (ltb p.bits q.bits) ≡ a
    go true ea b eb = refl
    go false ea true eb = refl
    go false ea false eb = absurd (ne (omega (arith, ltb-false q.len p.len ea, ltb-false p.len q.len eb)))

pub by_bits : (p q : Key) → p.sum ≡ q.sum → p.len ≡ q.len → key_before p q ≡ ltb p.bits q.bits
by_bits p q e f =
    after_sum p q e ∙ ap₂ (λ (a b : Bool). first_by a b (ltb p.bits q.bits)) (le-ltb q.len p.len (omega (arith, f))) (le-ltb p.len q.len (omega (arith, f)))
