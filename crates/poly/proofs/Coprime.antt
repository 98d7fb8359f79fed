-- Multiples of two polynomials without a common factor are the multiples of their product. Assumes nothing.
use mathlib.Core.Path.{◌≡◌, sym, ap, ap₂, ◌∙◌}
use Prim.Native.Nat.{ℕ}
use Rattle.poly.specs.Polynomial.{add, product, Multiple}
use Rattle.poly.proofs.Product.{product_comm, product_assoc, product_one_r, product_add_l, product_add_r}

-- a Bezout certificate: u · a + v · b is 1
abbrev pub Bezout : ℕ → ℕ → ℕ → ℕ → Type 0
Bezout a b u v = add (product u a) (product v b) ≡ 1

pub multiple_of_left : (a b w : ℕ) → Multiple (product a b) w → Multiple a w
multiple_of_left a b w h = (product h.0 b, product_assoc h.0 b a ∙ ap (product h.0) (product_comm b a) ∙ h.1)

pub multiple_of_right : (a b w : ℕ) → Multiple (product a b) w → Multiple b w
multiple_of_right a b w h = (product h.0 a, product_assoc h.0 a b ∙ h.1)

-- the sum of two multiples is a multiple
pub multiple_sum : (g v w : ℕ) → Multiple g v → Multiple g w → Multiple g (add v w)
multiple_sum g v w h k = (add h.0 k.0, product_add_l g h.0 k.0 ∙ ap₂ add h.1 k.1)

-- the certificate times w: w is (w · u) · a + (w · v) · b, and each term is a multiple of the product
pub multiple_of_both : (a b u v w : ℕ) → Bezout a b u v → Multiple a w → Multiple b w → Multiple (product a b) w
multiple_of_both a b u v w one ha hb =
    let p : ℕ = ha.0 in
    let q : ℕ = hb.0 in
    let left : product (product q u) (product a b) ≡ product w (product u a) =
    product_assoc q u (product a b) ∙ ap (product q) (sym (product_assoc u a b) ∙ product_comm (product u a) b) ∙ sym (product_assoc q b (product u a))
    ∙ ap (λ (t : ℕ). product t (product u a)) hb.1 in
    let right : product (product p v) (product a b) ≡ product w (product v b) =
    product_assoc p v (product a b) ∙ ap (product p) (sym (product_assoc v a b) ∙ ap (λ (t : ℕ). product t b) (product_comm v a) ∙ product_assoc a v b)
    ∙ sym (product_assoc p a (product v b)) ∙ ap (λ (t : ℕ). product t (product v b)) ha.1 in (
      add (product q u) (product p v),
      product_add_l (product a b) (product q u) (product p v) ∙ ap₂ add left right ∙ sym (product_add_r w (product u a) (product v b))
          ∙ ap (product w) one ∙ product_one_r w,
    )
