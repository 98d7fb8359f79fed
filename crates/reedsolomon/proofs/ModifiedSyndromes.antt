-- Modified syndromes: what is left of a sequence of power sums once the marked locators are taken out of it. Assumes nothing.
use mathlib.Core.Path.{◌≡◌, refl, sym, ap, ap₂, ◌∙◌, subst}
use mathlib.Core.Bool.{Bool, true, false}
use mathlib.Core.Logic.{⊎_elim}
use Prim.Native.Nat.{ℕ, zero, suc, ◌+◌, ◌-◌, ◌<◌}
use native.Mathlib.Nat.{not-suc-le-zero, le_of_suc-le-suc, eq-or-lt_of_le, suc_inj, le_trans, le-suc, lt-suc_self}
use native.Mathlib.Omega.{arith}
use Rattle.field.specs.Laws.{Field}
use Rattle.reedsolomon.specs.Sums.{power_sum}
use Rattle.reedsolomon.specs.Words.{Elements, indicator, count}
use Rattle.reedsolomon.specs.ModifiedSyndromes.{modify, modified_if, modified_syndromes, Left, times_distance_if, times_distances}
use Rattle.reedsolomon.proofs.FieldFacts.{zero_mul}
use Rattle.reedsolomon.proofs.Counting.{count_of_marked, count_of_unmarked}
use Rattle.reedsolomon.proofs.PowerSums.{modified_power_sum, no_weight_at_modified_locator, weight_at_other_locator}

module _ {F : Type 0} {In : F → Type 0} {◌⊕◌ ◌⊗◌ : F → F → F} {𝟘 𝟙 : F} {inv : F → F} (K : Field In ◌⊕◌ ◌⊗◌ 𝟘 𝟙 inv) (X : ℕ → F)
    (E : ℕ → Bool) where
  infixl 20 ◌⊕◌
  infixl 30 ◌⊗◌
  open K use {in_mul}

  abbrev distance : Bool → F → F → F → F
  distance b y x c = times_distance_if ◌⊕◌ ◌⊗◌ b y x c

  -- c times the distances of x to the marked locators below p
  abbrev distances : ℕ → F → F → F
  distances p x c = times_distances ◌⊕◌ ◌⊗◌ X E p x c

  abbrev power_sum_of : ℕ → (ℕ → F) → ℕ → F
  power_sum_of n c i = power_sum ◌⊕◌ ◌⊗◌ 𝟘 𝟙 n c X i

  one_locator : (n : ℕ) (b : Bool) (y : F) (S c : ℕ → F) (t : ℕ) → ((i : ℕ) → i < t → S i ≡ power_sum_of n c i)
      → (i : ℕ) → i + indicator b < t → modified_if ◌⊕◌ ◌⊗◌ b y S i ≡ power_sum_of n (λ j. distance b y (X j) (c j)) i
  unfolding indicator modify modified_if times_distance_if
  one_locator n true y S c t h i l =
      ap₂ (λ (a b : F). a ⊕ y ⊗ b) (h (suc i) (omega arith)) (h i (omega arith)) ∙ sym (modified_power_sum K n c X y i)
  one_locator n false y S c t h i l = h i (omega arith)

  -- of t power sums, t less the marks are left, and their weights are the old ones times the distances to the marked locators
  pub modified_sums_have_modified_weights : (n p : ℕ) (S c : ℕ → F) (t : ℕ) → ((i : ℕ) → i < t → S i ≡ power_sum_of n c i)
      → (i : ℕ) → i + count E p < t → modified_syndromes ◌⊕◌ ◌⊗◌ X E p S i ≡ power_sum_of n (λ j. distances p (X j) (c j)) i
  unfolding count modified_syndromes times_distances
  modified_sums_have_modified_weights n zero S c t h i l = h i (omega arith)
  modified_sums_have_modified_weights n (suc p) S c t h i l =
      one_locator n (E p) (X p) (modified_syndromes ◌⊕◌ ◌⊗◌ X E p S) (λ j. distances p (X j) (c j)) (t - count E p)
      (λ k u. modified_sums_have_modified_weights n p S c t h k (omega arith)) i (omega arith)

  distance_of_zero : (b : Bool) (y x : F) → distance b y x 𝟘 ≡ 𝟘
  unfolding times_distance_if
  distance_of_zero true y x = zero_mul K (x ⊕ y)
  distance_of_zero false y x = refl

  -- no weight stays none
  pub distances_of_zero : (p : ℕ) (x : F) → distances p x 𝟘 ≡ 𝟘
  unfolding times_distances
  distances_of_zero zero x = refl
  distances_of_zero (suc p) x = ap (distance (E p) (X p) x) (distances_of_zero p x) ∙ distance_of_zero (E p) (X p) x

  -- at a marked locator nothing is left
  pub distances_at_marked_locator : (p j : ℕ) (c : F) → j < p → E j ≡ true → distances p (X j) c ≡ 𝟘
  unfolding times_distances
  distances_at_marked_locator zero j c l e = absurd (not-suc-le-zero l)
  distances_at_marked_locator (suc p) j c l e =
      ⊎_elim
      (λ q. ap (λ (t : ℕ). distance (E p) (X p) (X t) (distances p (X t) c)) (suc_inj q) ∙ ap
      (λ (b : Bool). distance b (X p) (X p) (distances p (X p) c)) (ap E (sym (suc_inj q)) ∙ e) ∙ itself (X p) (distances p (X p) c))
      (λ q. ap (distance (E p) (X p) (X j)) (distances_at_marked_locator p j c (le_of_suc-le-suc q) e) ∙ distance_of_zero (E p) (X p) (X j))
      (eq-or-lt_of_le l)
    where
      itself : (x a : F) → distance true x x a ≡ 𝟘
      itself x a = unfold times_distance_if in no_weight_at_modified_locator K a x x refl

  distance_in : (b : Bool) (y x c : F) → In c → In (distance b y x c)
  unfolding times_distance_if
  distance_in true y x c h = in_mul c (x ⊕ y)
  distance_in false y x c h = h

  pub distances_in : (p : ℕ) (x c : F) → In c → In (distances p x c)
  unfolding times_distances
  distances_in zero x c h = h
  distances_in (suc p) x c h = distance_in (E p) (X p) x (distances p x c) (distances_in p x c h)

  -- away from the marked locators only 0 gives 0
  pub distances_to_other_locators : (p : ℕ) (x c : F) → In c → In x → Elements In p X → ((q : ℕ) → q < p → E q ≡ true → x ≡ X q → ⊥)
      → distances p x c ≡ 𝟘 → c ≡ 𝟘
  unfolding times_distances
  distances_to_other_locators zero x c hc h hx ne e = e
  distances_to_other_locators (suc p) x c hc h hx ne e =
      distances_to_other_locators p x c hc h (λ j l. hx j (le_trans l (le-suc p))) (λ q l. ne q (le_trans l (le-suc p)))
      (one_step (E p) (X p) x (distances p x c) (distances_in p x c hc) h (hx p (lt-suc_self p)) (ne p (lt-suc_self p)) e)
    where
      one_step : (b : Bool) (y x c : F) → In c → In x → In y → (b ≡ true → x ≡ y → ⊥) → distance b y x c ≡ 𝟘 → c ≡ 𝟘
      one_step true y x c hc hx hy ne e = weight_at_other_locator K c x y hc hx hy (ne refl) (unfold times_distance_if in e)
      one_step false y x c hc hx hy ne e = unfold times_distance_if in e

  -- the loop that modifies, locator by locator
  pub modifying_begins : (S : ℕ → F) (t : ℕ) (M : ℕ → F) → ((i : ℕ) → i < t → M i ≡ S i) → Left ◌⊕◌ ◌⊗◌ X E 0 t S M
  unfolding count modified_syndromes
  modifying_begins S t M h i l = h i (omega arith)

  pub marked_locator_is_modified : (S : ℕ → F) (t p : ℕ) (M M' : ℕ → F) → E p ≡ true → Left ◌⊕◌ ◌⊗◌ X E p t S M
      → ((i : ℕ) → i + count E (suc p) < t → M' i ≡ M (suc i) ⊕ X p ⊗ M i) → Left ◌⊕◌ ◌⊗◌ X E (suc p) t S M'
  unfolding modified_syndromes modify modified_if
  marked_locator_is_modified S t p M M' e h new i l =
      let u : i + suc (count E p) < t = subst (λ (x : ℕ). i + x < t) (count_of_marked E p e) l in
      new i l ∙ ap₂ (λ (a b : F). a ⊕ X p ⊗ b) (h (suc i) (omega arith)) (h i (omega arith))
      ∙ ap (λ (b : Bool). modified_if ◌⊕◌ ◌⊗◌ b (X p) (modified_syndromes ◌⊕◌ ◌⊗◌ X E p S) i) (sym e)

  pub unmarked_locator_is_passed : (S : ℕ → F) (t p : ℕ) (M : ℕ → F) → E p ≡ false → Left ◌⊕◌ ◌⊗◌ X E p t S M → Left ◌⊕◌ ◌⊗◌ X E (suc p) t S M
  unfolding modified_syndromes modified_if
  unmarked_locator_is_passed S t p M e h i l =
      h i (subst (λ (x : ℕ). i + x < t) (count_of_unmarked E p e) l)
      ∙ ap (λ (b : Bool). modified_if ◌⊕◌ ◌⊗◌ b (X p) (modified_syndromes ◌⊕◌ ◌⊗◌ X E p S) i) (sym e)
