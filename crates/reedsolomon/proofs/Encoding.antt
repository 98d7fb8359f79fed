-- Data followed by their remainder are a codeword, and the only one with these data in front. Assumes nothing.
use mathlib.Core.Path.{◌≡◌, refl, sym, ap, ap₂, ◌∙◌, subst}
use mathlib.Core.Bool.{true}
use Prim.Native.Nat.{ℕ, zero, suc, ◌+◌, ◌≤◌, ◌<◌}
use native.Mathlib.Nat.{le_refl}
use native.Mathlib.Decide.{ℕ_discrete, dec_le}
use native.Mathlib.Omega.{arith}
use Rattle.field.specs.Laws.{Field}
use Rattle.reedsolomon.specs.Sums.{power, value, position}
use Rattle.reedsolomon.specs.Words.{Elements, count, syndrome, Codeword, OrderAtLeast}
use Rattle.reedsolomon.specs.Product.{ProductPolynomial}
use Rattle.reedsolomon.specs.Encoding.{Generator, RegisterStep, Divided}
use Rattle.reedsolomon.proofs.FieldFacts.{mul_zero, zero_mul, sum_mul, sum_twice, mul_exchange}
use Rattle.reedsolomon.proofs.Polynomials.{value_of_equals, value_of_zeros, value_of_combination, value_first, value_in_parts}
use Rattle.reedsolomon.proofs.Counting.{count_of_all, nonzeros_of_end}
use Rattle.reedsolomon.proofs.Product.{product_of_no_locators, product_with_marked_locator, product_has_marked_roots}
use Rattle.reedsolomon.proofs.Reach.{close_codewords_are_equal}

module _ {F : Type 0} {In : F → Type 0} {◌⊕◌ ◌⊗◌ : F → F → F} {𝟘 𝟙 : F} {inv : F → F} (K : Field In ◌⊕◌ ◌⊗◌ 𝟘 𝟙 inv) where
  infixl 20 ◌⊕◌
  infixl 30 ◌⊗◌
  open K use {sum_comm, sum_zero, sum_self, mul_one, in_zero, in_sum, in_mul}

  abbrev ◌^^◌ : F → ℕ → F
  a ^^ n = power ◌⊗◌ 𝟙 a n

  infixr 40 ◌^^◌
  abbrev value_of : ℕ → (ℕ → F) → F → F
  value_of k p x = value ◌⊕◌ ◌⊗◌ 𝟘 k p x

  module _ (T : ℕ) (g : ℕ → F) (monic : g 0 ≡ 𝟙) where
    -- one register step multiplies the remainder's value at a root b of g by b and adds u * b ^ T
    pub register_step_at_root : (u b : F) (r r' : ℕ → F) → In u → In (r 0) → r T ≡ 𝟘 → RegisterStep ◌⊕◌ ◌⊗◌ 𝟘 𝟙 T g u r r' → value_of (suc T) g b ≡ 𝟘
        → value_of T r' b ≡ value_of T r b ⊗ b ⊕ u ⊗ b ^^ T
    unfolding value
    register_step_at_root u b r r' hu hr r_t w root =
        value_of_equals K T r' (λ i. h (suc i)) b w.written
        ∙ sym (sum_twice K (u ⊗ b ^^ T) (value_of T (λ i. h (suc i)) b)) ∙ ap (λ (x : F). u ⊗ b ^^ T ⊕ x) (sym front ∙ whole)
        ∙ sum_comm (u ⊗ b ^^ T) (value_of T r b ⊗ b)
      where
        f : F
        f = u ⊕ r 0

        -- the remainder with f times the generator added
        h : ℕ → F
        h j = r j ⊕ f ⊗ g j

        first : h 0 ≡ u
        first =
            ap (λ (x : F). r 0 ⊕ x) (ap (λ (x : F). f ⊗ x) monic ∙ mul_one f (in_sum u (r 0) hu hr) ∙ sum_comm u (r 0))
            ∙ sum_twice K (r 0) u

        whole : value_of (suc T) h b ≡ value_of T r b ⊗ b
        whole =
            value_of_combination K (suc T) r g f b ∙ ap (λ (x : F). value_of (suc T) r b ⊕ f ⊗ x) root
            ∙ ap (λ (x : F). value_of (suc T) r b ⊕ x) (mul_zero K f)
            ∙ sum_zero (value_of (suc T) r b) ∙ ap (λ (x : F). value_of T r b ⊗ b ⊕ x) r_t ∙ sum_zero (value_of T r b ⊗ b)

        front : value_of (suc T) h b ≡ u ⊗ b ^^ T ⊕ value_of T (λ i. h (suc i)) b
        front = value_first K T h b (subst In (sym first) hu) ∙ ap (λ (x : F). x ⊗ b ^^ T ⊕ value_of T (λ i. h (suc i)) b) first

    pub division_of_no_data : (d r : ℕ → F) → ((j : ℕ) → r j ≡ 𝟘) → Divided ◌⊕◌ ◌⊗◌ 𝟘 𝟙 In T g d 0 r
    unfolding value
    division_of_no_data d r h =
        record {
          inside = λ j. subst In (sym (h j)) in_zero;
          ended = λ i l. h i;
          values = λ b e. value_of_zeros K T r b (λ j l. h j) ∙ sym (zero_mul K (b ^^ T));
        }

    pub division_of_one_symbol_more : (d r r' : ℕ → F) (k : ℕ) → In (d k) → Divided ◌⊕◌ ◌⊗◌ 𝟘 𝟙 In T g d k r
        → RegisterStep ◌⊕◌ ◌⊗◌ 𝟘 𝟙 T g (d k) r r'
        → Divided ◌⊕◌ ◌⊗◌ 𝟘 𝟙 In T g d (suc k) r'
    unfolding value
    division_of_one_symbol_more d r r' k hd v w =
        record {
          inside = λ j. elim (dec_le T j) [
            | yes l ↦ subst In (sym (w.kept j l)) (v.inside j)
            | no l ↦ subst In (sym (w.written j (native.Mathlib.Nat.lt_of_not-le l)))
                (in_sum (r (suc j)) ((d k ⊕ r 0) ⊗ g (suc j)) (v.inside (suc j)) (in_mul (d k ⊕ r 0) (g (suc j))))
          ];
          ended = λ i l. w.kept i l ∙ v.ended i l;
          values = λ b e.
              register_step_at_root (d k) b r r' hd (v.inside 0) (v.ended T (le_refl T)) w e ∙ ap (λ (x : F). x ⊗ b ⊕ d k ⊗ b ^^ T) (v.values b e)
              ∙ ap (λ (x : F). x ⊕ d k ⊗ b ^^ T) (mul_exchange K (value_of k d b) (b ^^ T) b)
              ∙ sym (sum_mul K (value_of k d b ⊗ b) (d k) (b ^^ T));
        }

  -- the generator is the product polynomial of its roots
  pub product_of_roots_is_a_generator : (α : F) (T e b : ℕ) (s : ℕ → F) → b + T ≡ e
      → ProductPolynomial In ◌⊕◌ ◌⊗◌ 𝟘 𝟙 (λ i. α ^^ suc i) (λ i. true) T e s
      → Generator ◌⊕◌ ◌⊗◌ 𝟘 𝟙 α T (λ i. s (b + i))
  product_of_roots_is_a_generator α T e b s q m =
      let k : count (λ i. true) T ≡ T = count_of_all T in
      record {
        monic = m.leading (b + 0) (omega arith);
        roots = λ i l.
            subst (λ (t : ℕ). value_of (suc t) (λ i. s (b + i)) (α ^^ suc i) ≡ 𝟘) k
            (product_has_marked_roots K (λ i. α ^^ suc i) (λ i. true) e T s m b (omega arith) i l refl);
      }

  -- so there is one for every number of roots
  module _ (α : F) (T : ℕ) where
    -- the product of x + α ^ 1 to x + α ^ n, the lowest coefficient at the entry T
    abbrev product_of_roots : ℕ → ℕ → F
    product_of_roots zero i = elim (ℕ_discrete i T) [ yes q ↦ 𝟙 | no q ↦ 𝟘 ]
    product_of_roots (suc n) i = product_of_roots n (suc i) ⊕ α ^^ suc n ⊗ product_of_roots n i

    is_product : (n : ℕ) → n ≤ T → ProductPolynomial In ◌⊕◌ ◌⊗◌ 𝟘 𝟙 (λ i. α ^^ suc i) (λ i. true) n T (product_of_roots n)
    is_product zero l = product_of_no_locators K (λ i. α ^^ suc i) (λ i. true) T (product_of_roots zero) (at_end (ℕ_discrete T T)) (λ i. elsewhere i (ℕ_discrete i T))
      where
        at_end : (d : Dec (T ≡ T)) → elim d [ yes q ↦ 𝟙 | no q ↦ 𝟘 ] ≡ 𝟙
        at_end (yes q) = refl
        at_end (no q) = absurd (q refl)

        elsewhere : (i : ℕ) (d : Dec (i ≡ T)) → (i ≡ T → ⊥) → elim d [ yes q ↦ 𝟙 | no q ↦ 𝟘 ] ≡ 𝟘
        elsewhere i (yes q) n = absurd (n q)
        elsewhere i (no q) n = refl
    is_product (suc n) l = go (is_product n (omega arith))
      where
        go : ProductPolynomial In ◌⊕◌ ◌⊗◌ 𝟘 𝟙 (λ i. α ^^ suc i) (λ i. true) n T (product_of_roots n)
            → ProductPolynomial In ◌⊕◌ ◌⊗◌ 𝟘 𝟙 (λ i. α ^^ suc i) (λ i. true) (suc n) T (product_of_roots (suc n))
        go m =
            product_with_marked_locator K (λ i. α ^^ suc i) (λ i. true) T n (product_of_roots n) (product_of_roots (suc n)) refl
            (let k : count (λ i. true) n ≡ n = count_of_all n in omega arith) m
            (record {
              written = λ i l. refl;
              kept = λ i l.
                  ap₂ (λ (x y : F). x ⊕ α ^^ suc n ⊗ y) (m.after (suc i) (omega arith)) (m.after i l) ∙ ap (λ (x : F). 𝟘 ⊕ x) (mul_zero K (α ^^ suc n))
                  ∙ sum_zero 𝟘 ∙ sym (m.after i l);
            })

    -- the generator of T roots, and 0 behind it
    abbrev pub generator_of : ℕ → F
    generator_of i = product_of_roots T (0 + i)

    pub is_generator : Generator ◌⊕◌ ◌⊗◌ 𝟘 𝟙 α T generator_of
    is_generator = product_of_roots_is_a_generator α T T 0 (product_of_roots T) (omega arith) (is_product T (le_refl T))

    pub generator_ends : (i : ℕ) → T < i → generator_of i ≡ 𝟘
    generator_ends i l = (is_product T (le_refl T)).after (0 + i) (omega arith)

  -- data and remainder together
  pub data_with_remainder_are_a_codeword : (α : F) (T : ℕ) (g : ℕ → F) → Generator ◌⊕◌ ◌⊗◌ 𝟘 𝟙 α T g → (d r w : ℕ → F) (k : ℕ)
      → Divided ◌⊕◌ ◌⊗◌ 𝟘 𝟙 In T g d k r
      → Elements In k w → ((j : ℕ) → j < k → w j ≡ d j) → ((i : ℕ) → i < T → w (k + i) ≡ r i) → Codeword ◌⊕◌ ◌⊗◌ 𝟘 𝟙 α (k + T) T w
  unfolding syndrome
  data_with_remainder_are_a_codeword α T g gen d r w k v hw front back i l =
      let b : F = α ^^ suc i in
      value_in_parts K k T w b hw
      ∙ ap₂ (λ (x y : F). x ⊗ b ^^ T ⊕ y) (value_of_equals K k w d b front)
      (value_of_equals K T (λ i. w (k + i)) r b back ∙ v.values b (gen.roots i l))
      ∙ sum_self (value_of k d b ⊗ b ^^ T)

  -- codewords that agree in all but the last T columns agree in these too
  pub data_determine_the_codeword : (same : (a b : F) → Dec (a ≡ b)) (α : F) (k T : ℕ) → OrderAtLeast In ◌⊗◌ 𝟘 𝟙 (k + T) α → (a b : ℕ → F)
      → Elements In (k + T) a → Elements In (k + T) b → Codeword ◌⊕◌ ◌⊗◌ 𝟘 𝟙 α (k + T) T a → Codeword ◌⊕◌ ◌⊗◌ 𝟘 𝟙 α (k + T) T b
      → ((j : ℕ) → j < k → a j ≡ b j) → (j : ℕ) → j < k + T → a j ≡ b j
  data_determine_the_codeword same α k T ord a b ha hb ca cb h =
      close_codewords_are_equal K same α (k + T) T ord a b ha hb ca cb
      (nonzeros_of_end same 𝟘 k T (λ j. (a j ⊕ b j) ⊗ position ◌⊗◌ 𝟙 α (k + T) j)
      (λ j l. ap (λ (t : F). (t ⊕ b j) ⊗ position ◌⊗◌ 𝟙 α (k + T) j) (h j l) ∙ ap (λ (t : F). t ⊗ position ◌⊗◌ 𝟙 α (k + T) j)
      (sum_self (b j)) ∙ zero_mul K (position ◌⊗◌ 𝟙 α (k + T) j)))
