-- f times a word by its multiples. Assumes nothing.
use mathlib.Core.Path.{◌≡◌, refl, sym, ap, ap₂, ◌∙◌, subst}
use mathlib.Core.List.{List}
use Prim.Native.Nat.{ℕ, zero, suc, ◌+◌, ◌*◌, ◌/◌, ◌%◌, ◌^◌, ◌<◌}
use native.Mathlib.Nat.{le-suc, le_trans, lt_irrefl, eq-or-lt_of_le, suc_inj, le_of_suc-le-suc}
use native.Mathlib.Numerals.{add-one}
use native.Mathlib.Omega.{arith}
use lib.Bits.{bit_xor}
use lib.Dec.{lit<}
use lib.ListN.{get_or}
use lib.Pow.{pow_pos, shr-shr}
use native.Mathlib.Nat
use Rattle.poly.specs.Polynomial.{add, scale}
use Rattle.poly.proofs.Sum.{linear_zero, add_lt, scale_lt}
use Rattle.field.specs.Element.{mul, α}
use Rattle.field.proofs.Digits.{digits_product, whole}
use Rattle.field.proofs.Ring.{mul_comm}
use Rattle.field.proofs.Short.{field64}
use Rattle.reedsolomon.specs.Sums.{sum}
use Rattle.reedsolomon.proofs.Sums.{sum_first, sum_of_equals}
use Rattle.syndromes.specs.Packed.{symbol_in, joined, SixWords, Multiples, multiple_in, multiple_of, IsGenerator}
use Rattle.syndromes.proofs.Packed.{symbol_of_sum, joined_sum}
use Rattle.syndromes.proofs.ThreeWords.{Each, three_words}

-- one digit more
pub one_digit_more : (p : ℕ → ℕ) (n f r s : ℕ) → r ≡ sum add 0 n (λ k. scale (f / 2 ^ k % 2) (p k)) → s ≡ scale (f / 2 ^ n % 2) (p n)
    → bit_xor r s ≡ sum add 0 (n + 1) (λ k. scale (f / 2 ^ k % 2) (p k))
unfolding sum add
one_digit_more p n f r s er es = ap₂ add er es ∙ ap (λ (j : ℕ). sum add 0 j (λ k. scale (f / 2 ^ k % 2) (p k))) (sym (add-one n))

named_lt : (p : ℕ → ℕ) (n f : ℕ) → ((k : ℕ) → k < n → p k < 2 ^ 60) → sum add 0 n (λ k. scale (f / 2 ^ k % 2) (p k)) < 2 ^ 60
unfolding sum
named_lt p zero f h = pow_pos 60
named_lt p (suc n) f h =
    add_lt 60 _ _ (named_lt p n f (λ k l. h k (le_trans l (le-suc n)))) (scale_lt 60 (f / 2 ^ n % 2) (p n) (h n (omega arith)))

pub multiple_lt : (ms : List ℕ) → SixWords ms → (f : ℕ) → multiple_in ms f < 2 ^ 60
unfolding multiple_in
multiple_lt ms six f = named_lt (λ k. get_or ms k 0) 6 f six.small

-- symbol i of a sum that the digits of f name
symbol_of_scale : (c a i : ℕ) → symbol_in (scale c a) i ≡ scale c (symbol_in a i)
unfolding scale
symbol_of_scale zero a i = linear_zero (λ n. symbol_in n i) (symbol_of_sum i)
symbol_of_scale (suc c) a i = refl

symbol_of_named : (p : ℕ → ℕ) (n f i : ℕ) → symbol_in (sum add 0 n (λ k. scale (f / 2 ^ k % 2) (p k))) i ≡ sum add 0 n (λ k. scale (f / 2 ^ k % 2) (symbol_in (p k) i))
unfolding sum
symbol_of_named p zero f i = linear_zero (λ n. symbol_in n i) (symbol_of_sum i)
symbol_of_named p (suc n) f i = symbol_of_sum i _ _ ∙ ap₂ add (symbol_of_named p n f i) (symbol_of_scale (f / 2 ^ n % 2) (p n) i)

-- where each is the one before it times α, the sum that the digits of f name is the product by f's digits
named_is_product : (n : ℕ) (x : ℕ → ℕ) (f : ℕ) → ((k : ℕ) → suc k < n → x (suc k) ≡ mul 6 67 α (x k)) → sum add 0 n (λ k. scale (f / 2 ^ k % 2) (x k)) ≡ digits_product 6 67 n (x 0) f
unfolding digits_product
named_is_product zero x f h = unfold sum in refl
named_is_product (suc n) x f h =
    sum_first field64 n (λ k. scale (f / 2 ^ k % 2) (x k))
    ∙ ap₂ add (ap (λ (t : ℕ). scale (t % 2) (x 0)) (Nat.div-one f))
    (sum_of_equals field64 n _ _ (λ k l. ap (λ (t : ℕ). scale (t % 2) (x (suc k))) (halved k))
    ∙ named_is_product n (λ k. x (suc k)) (f / 2) (λ k l. h (suc k) (omega arith)) ∙ next n h)
  where
    halved : (k : ℕ) → f / 2 ^ suc k ≡ f / 2 / 2 ^ k
    halved k = let e : 1 + k ≡ suc k = omega arith in sym (shr-shr f 1 k ∙ ap (λ (t : ℕ). f / 2 ^ t) e)

    next : (n : ℕ) → ((k : ℕ) → suc k < suc n → x (suc k) ≡ mul 6 67 α (x k)) → digits_product 6 67 n (x 1) (f / 2) ≡ digits_product 6 67 n (mul 6 67 α (x 0)) (f / 2)
    next zero h = refl
    next (suc n) h = ap (λ (t : ℕ). digits_product 6 67 (suc n) t (f / 2)) (h 0 (omega arith))

-- f times a word: each symbol times f
times_each : (w : ℕ) (ms : List ℕ) → Multiples w ms → (f : ℕ) → Each (mul 6 67 f) 10 w (multiple_in ms f)
unfolding multiple_in
times_each w ms m f i l =
    symbol_of_named (λ k. get_or ms k 0) 6 f i
    ∙ named_is_product 6 (λ k. symbol_in (get_or ms k 0) i) f (λ k u. (m.next k (omega arith)).each i l)
    ∙ ap (λ (t : ℕ). digits_product 6 67 6 (symbol_in t i) f) m.first
    ∙ ap (λ (t : ℕ). digits_product 6 67 6 t f) (sym (symbol_small w i))
    ∙ whole 6 67 refl (lit< tt) (symbol_in w i) f _ refl ∙ mul_comm 6 67 (symbol_in w i) f
  where
    symbol_small : (n j : ℕ) → symbol_in n j % 2 ^ 6 ≡ symbol_in n j
    symbol_small n j = unfold symbol_in in native.Mathlib.Nat.mod-mod (n / 2 ^ (6 * j)) (2 ^ 6)

module _ (a b c : ℕ) (xs ys zs : List ℕ) (ha : Multiples a xs) (hb : Multiples b ys) (hc : Multiples c zs) where
  -- three words, each with its multiples
  product_symbol : (f : ℕ) → Each (mul 6 67 f) 30 (joined a b c) (multiple_of xs ys zs f)
  unfolding multiple_of
  product_symbol f =
      three_words (mul 6 67 f) a b c _ _ _ (word_small a xs ha) (word_small b ys hb) (multiple_lt xs ha.words f) (multiple_lt ys hb.words f)
      (times_each a xs ha f) (times_each b ys hb f) (times_each c zs hc f)
    where
      word_small : (w : ℕ) (ms : List ℕ) → Multiples w ms → w < 2 ^ 60
      word_small w ms m = subst (λ (x : ℕ). x < 2 ^ 60) m.first (m.words.small 0 (omega arith))

  -- the words stand in front of their multiples
  in_front_are : joined a b c ≡ joined (get_or xs 0 0) (get_or ys 0 0) (get_or zs 0 0)
  in_front_are = sym (λ i. joined (ha.first i) (hb.first i) (hc.first i))

  pub generator_in_front : (T : ℕ) → IsGenerator T (joined a b c) → IsGenerator T (joined (get_or xs 0 0) (get_or ys 0 0) (get_or zs 0 0))
  generator_in_front T = subst (IsGenerator T) in_front_are

  pub product_in_front : (f : ℕ) → Each (mul 6 67 f) 30 (joined (get_or xs 0 0) (get_or ys 0 0) (get_or zs 0 0)) (multiple_of xs ys zs f)
  product_in_front f = subst (λ (n : ℕ). Each (mul 6 67 f) 30 n (multiple_of xs ys zs f)) in_front_are (product_symbol f)

-- three words and the multiples that are added to them
pub words_with_multiple : (xs ys zs : List ℕ) → SixWords xs → SixWords ys → (a b c x y z n f : ℕ) → a < 2 ^ 60 → b < 2 ^ 60 → joined a b c ≡ n
    → x ≡ multiple_in xs f → y ≡ multiple_in ys f → z ≡ multiple_in zs f → joined (bit_xor a x) (bit_xor b y) (bit_xor c z) ≡ add n (multiple_of xs ys zs f)
unfolding multiple_of add
words_with_multiple xs ys zs sa sb a b c x y z n f ha hb en ex ey ez =
    (λ i. joined (bit_xor a (ex i)) (bit_xor b (ey i)) (bit_xor c (ez i)))
    ∙ joined_sum a b c _ _ _ ha (multiple_lt xs sa f) hb (multiple_lt ys sb f) ∙ ap (λ (t : ℕ). add t (multiple_of xs ys zs f)) en
