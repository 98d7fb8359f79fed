-- What is in a heap is known by its weights; the first of all is the head of the list that they make. Assumes nothing.
use Prim.Native.Nat.{ℕ, zero, suc, ◌+◌, ◌≤◌, ◌<◌}
use native.Mathlib.Omega.{arith}
use native.Mathlib.Decide.{ℕ_discrete}
use mathlib.Core.List.{List, [], ◌∷◌}
use mathlib.Core.Path.{◌≡◌, refl, ap, ap₂, subst, subst⁻¹}
use Rattle.heap.specs.Heap.{weigh, Every, Heap}
use Rattle.heap.specs.Holds.{weigh_list, AllAfter, Ordered, Holds}

module _ {A : Type 0} (R : A → A → Type 0) (eq : (a b : A) → Dec (a ≡ b)) (same : (a : A) → R a a) (anti : (a b : A) → R a b → R b a → a ≡ b) (trans : (a b c : A) → R a b → R b c → R a c) where
  abbrev one : (a b : A) → Dec (a ≡ b) → ℕ
  one a b (yes e) = 1
  one a b (no e) = 0

  abbrev is : A → A → ℕ
  is a b = one a b (eq a b)

  is_self : (a : A) → is a a ≡ 1
  is_self a = go (eq a a)
    where
      go : (d : Dec (a ≡ a)) → one a a d ≡ 1
      go (yes e) = refl
      go (no e) = absurd (e refl)

  -- what a weight finds in a list comes after x
  found : (x a : A) (xs : List A) → AllAfter R x xs → 0 < weigh_list (is a) xs → R x a
  unfolding weigh_list
  found x a [] aft h = absurd (omega arith)
  found x a (y ∷ ys) aft h = go (eq a y) refl (λ l. found x a ys aft.1 l)
    where
      go : (d : Dec (a ≡ y)) → eq a y ≡ d → (0 < weigh_list (is a) ys → R x a) → R x a
      go (yes e) z again = subst⁻¹ (λ (b : A). R x b) e aft.0
      go (no e) z again =
          let w : is a y ≡ 0 = ap (one a y) z in
          again (omega (arith, w, h))

  head_after : (x a : A) (xs : List A) → AllAfter R x xs → 0 < weigh_list (is a) (x ∷ xs) → R x a
  head_after x a xs aft h = found x a (x ∷ xs) (same x, aft) h

  -- two lists in the order with the same elements are one
  pub one_ordered_list : (xs ys : List A) → Ordered R xs → Ordered R ys → ((h : A → ℕ) → weigh_list h xs ≡ weigh_list h ys) → xs ≡ ys
  unfolding weigh_list
  one_ordered_list [] [] a b e = refl
  one_ordered_list [] (y ∷ ys) a b e = absurd (omega (arith, e (λ z. 1)))
  one_ordered_list (x ∷ xs) [] a b e = absurd (omega (arith, e (λ z. 1)))
  one_ordered_list (x ∷ xs) (y ∷ ys) a b e =
      let yx : R y x = head_after y x ys b.0 (omega (arith, e (is x), is_self x)) in
      let xy : R x y = head_after x y xs a.0 (omega (arith, e (is y), is_self y)) in
      let q : x ≡ y = anti x y xy yx in
      ap₂ ◌∷◌ q (one_ordered_list xs ys a.1 b.1 (λ h. omega (arith, e h, ap h q)))

  weigh_in : (f : ℕ → A) (n j : ℕ) → j < n → 0 < weigh (is (f j)) f n
  unfolding weigh
  weigh_in f zero j h = absurd (omega arith)
  weigh_in f (suc n) j h = go (ℕ_discrete j n) (λ l. weigh_in f n j l)
    where
      go : Dec (j ≡ n) → (j < n → 0 < weigh (is (f j)) f n) → 0 < is (f j) (f n) + weigh (is (f j)) f n
      go (yes e) again = let w : is (f j) (f n) ≡ 1 = subst (λ (k : ℕ). is (f j) (f k) ≡ 1) e (is_self (f j)) in omega (arith, w)
      go (no e) again = omega (arith, again (omega arith))

  weigh_some : (f : ℕ → A) (a : A) (n : ℕ) → 0 < weigh (is a) f n → (j : ℕ) × (j < n) × (a ≡ f j)
  unfolding weigh
  weigh_some f a zero h = absurd (omega arith)
  weigh_some f a (suc n) h = go (eq a (f n)) refl (λ l. weigh_some f a n l)
    where
      go : (d : Dec (a ≡ f n)) → eq a (f n) ≡ d → (0 < weigh (is a) f n → (j : ℕ) × (j < n) × (a ≡ f j)) → (j : ℕ) × (j < suc n) × (a ≡ f j)
      go (yes e) z again = (n, omega arith, e)
      go (no e) z again =
          let w : is a (f n) ≡ 0 = ap (one a (f n)) z in
          let r = again (omega (arith, w, h)) in
          (r.0, omega (arith, r.1), r.2)

  -- what the weights find among n places and x has what these have
  found_has : (P : A → Type 0) (f : ℕ → A) (n : ℕ) (x a : A) → P x → Every P f n → 0 < weigh (is a) f n + is a x → P a
  found_has P f n x a px pf h = go (eq a x) refl
    where
      go : (d : Dec (a ≡ x)) → eq a x ≡ d → P a
      go (yes e) z = subst⁻¹ P e px
      go (no e) z =
          let v : is a x ≡ 0 = ap (one a x) z in
          let r = weigh_some f a n (omega (arith, v, h)) in
          subst⁻¹ P r.2 (pf r.0 r.1)

  -- what stays was there or came in
  pub every_kept : (P : A → Type 0) (f g : ℕ → A) (n m : ℕ) (x : A) → ((h : A → ℕ) → weigh h g m ≤ weigh h f n + h x) → P x → Every P f n → Every P g m
  every_kept P f g n m x w px pf j lt = found_has P f n x (g j) px pf (omega (arith, weigh_in g m j lt, w (is (g j))))

  -- what goes out was there or came in
  pub out_kept : (P : A → Type 0) (f : ℕ → A) (n : ℕ) (x y : A) → ((h : A → ℕ) → h y ≤ weigh h f n + h x) → P x → Every P f n → P y
  out_kept P f n x y w px pf = found_has P f n x y px pf (omega (arith, w (is y), is_self y))

  -- a list in the order that holds y and the heap's elements, none of which stands before y: y is its head
  pub first_is_head : (f : ℕ → A) (m : ℕ) (y : A) (xs : List A) → Heap R f m → Every (R y) f m → Ordered R xs → ((h : A → ℕ) → weigh h f m + h y ≡ weigh_list h xs)
      → (rest : List A) × (xs ≡ y ∷ rest) × Holds R f m rest
  unfolding weigh_list
  first_is_head f m y [] p first o w = absurd (omega (arith, w (λ z. 1)))
  first_is_head f m y (z ∷ zs) p first o w =
      let zy : R z y = head_after z y zs o.0 (omega (arith, w (is y), is_self y)) in
      let yz : R y z = found_has (R y) f m y z (same y) first (omega (arith, w (is z), is_self z)) in
      let e : z ≡ y = anti z y zy yz in
      (zs, ap (λ (a : A). a ∷ zs) e, record { heap = p; equal = λ h. omega (arith, w h, ap h e); ordered = o.1 })
