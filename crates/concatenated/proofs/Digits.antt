-- Digits and the number they make undo each other, so packed data come back. Assumes nothing.
use mathlib.Core.Path.{◌≡◌, refl, sym, ap, ap₂, ◌∙◌, subst, subst⁻¹}
use mathlib.Core.List.{List, [], ◌∷◌, ◌++◌}
use Prim.Native.Nat.{ℕ, zero, suc, ◌+◌, ◌-◌, ◌*◌, ◌/◌, ◌%◌, ◌^◌, ◌<◌}
use native.Mathlib.Nat
use native.Mathlib.Nat.{not-suc-le-zero, le_of_suc-le-suc, mod-lt, mod-eq_of_lt, mul-add-div_right, mul-add-mod_self_right, pow-suc, pow-succ', mul_assoc, add-mul, suc-mul, one-le-pow}
use native.Mathlib.Omega.{arith}
use lib.Arith.{digits_lt, digits_div, mod-mul}
use lib.ListN.{length, length-append, length-drop, get_or, take, drop, take-append-drop}
use lib.Pow.{pow-add}
use lib.Seq.{length-take-le, take_at, drop_at}
use Rattle.reedsolomon.specs.Search.{WordOf}
use Rattle.packing.specs.Packing.{joined, digit, symbols_of, bytes_of}
use Rattle.concatenated.specs.Lists.{All}
use Rattle.concatenated.specs.Data.{digits, repacked}
use Rattle.concatenated.proofs.Lists.{all_append, all_of_append, all_at}

-- every entry is a digit of the base
abbrev pub Below : ℕ → List ℕ → Type 0
Below base = All (λ d. d < base)

-- digits of the base are a word, and the other way
pub below_is_word : (base : ℕ) (ds : List ℕ) → Below base ds → WordOf base (length ds) ds
below_is_word base ds h = (refl, λ j l. all_at (λ d. d < base) ds j 0 h l)

pub word_is_below : (base n : ℕ) (ds : List ℕ) → WordOf base n ds → Below base ds
word_is_below base n [] h = tt
word_is_below base n (d ∷ ds) h = (h.1 0 (omega (arith, h.0)), word_is_below base (length ds) ds (refl, λ j l. h.1 (suc j) (omega (arith, h.0, l))))

-- what stands before the digits counts as their next digit
pub joined_from : (base x : ℕ) (ds : List ℕ) → joined base x ds ≡ x * base ^ length ds + joined base 0 ds
unfolding joined
joined_from base x [] = sym (Nat.add-zero (x * base ^ 0) ∙ ap (λ (t : ℕ). x * t) (Nat.pow-zero base) ∙ Nat.mul-one x)
joined_from base x (d ∷ ds) =
    let k : ℕ = length ds in
    let b : ℕ = base ^ k in
    let z : 0 * base + d ≡ d = omega (arith, Nat.zero-mul base) in
    joined_from base (x * base + d) ds ∙ ap (λ (t : ℕ). t + joined base 0 ds) (add-mul (x * base) d b)
    ∙ Nat.add_assoc (x * base * b) (d * b) (joined base 0 ds)
    ∙ ap₂ ◌+◌ (mul_assoc x base b ∙ ap (λ (t : ℕ). x * t) (sym (pow-succ' base k))) (sym (joined_from base d ds) ∙ ap (λ (t : ℕ). joined base t ds) (sym z))

-- the first digit is the highest
pub joined_cons : (base d : ℕ) (ds : List ℕ) → joined base 0 (d ∷ ds) ≡ d * base ^ length ds + joined base 0 ds
unfolding joined
joined_cons base d ds = let z : 0 * base + d ≡ d = omega (arith, Nat.zero-mul base) in ap (λ (t : ℕ). joined base t ds) z ∙ joined_from base d ds

pub joined_lt : (base : ℕ) (ds : List ℕ) → Below base ds → joined base 0 ds < base ^ length ds
unfolding joined
joined_lt base [] h = subst⁻¹ (λ (t : ℕ). 0 < t) (Nat.pow-zero base) (omega arith)
joined_lt base (d ∷ ds) h =
    subst⁻¹ (λ (t : ℕ). t < base ^ suc (length ds)) (joined_cons base d ds)
    (subst⁻¹ (λ (t : ℕ). d * base ^ length ds + joined base 0 ds < t) (pow-succ' base (length ds)) (digits_lt h.0 (joined_lt base ds h.1)))

pub digits_length : (base k x : ℕ) → length (digits base k x) ≡ k
unfolding digits
digits_length base zero x = refl
digits_length base (suc k) x = ap suc (digits_length base k x)

pub digit_at : (base k x i : ℕ) → i < k → get_or (digits base k x) i 0 ≡ digit base (k - 1 - i) x
unfolding digits
digit_at base zero x i h = absurd (not-suc-le-zero h)
digit_at base (suc k) x zero h = let last : suc k - 1 - 0 ≡ k = omega arith in ap (λ (m : ℕ). digit base m x) (sym last)
digit_at base (suc k) x (suc i) h = let same : k - 1 - i ≡ suc k - 1 - suc i = omega arith in digit_at base k x i (le_of_suc-le-suc h) ∙ ap (λ (m : ℕ). digit base m x) same

pub digits_below : (base k x : ℕ) → 0 < base → Below base (digits base k x)
unfolding digits
digits_below base zero x h = tt
digits_below base (suc k) x h = (mod-lt (x / base ^ k) h, digits_below base k x h)

-- the digits of a number make it
pub joined_of_digits : (base k x : ℕ) → 0 < base → joined base 0 (digits base k x) ≡ x % base ^ k
unfolding digits joined
joined_of_digits base zero x h = sym (ap (λ (t : ℕ). x % t) (Nat.pow-zero base) ∙ Nat.mod-one x)
joined_of_digits base (suc k) x h =
    joined_cons base (digit base k x) (digits base k x)
    ∙ ap₂ (λ (m y : ℕ). digit base k x * base ^ m + y) (digits_length base k x) (joined_of_digits base k x h)
    ∙ sym (ap (λ (t : ℕ). x % t) (pow-succ' base k) ∙ mod-mul x h (one-le-pow k base h))

-- so bytes that hold a number give it back; a byte is eight bits
pub number_comes_back : (k n : ℕ) → n < 256 ^ k → joined 256 0 (digits 256 k n) ≡ n
number_comes_back k n small = joined_of_digits 256 k n (omega arith) ∙ mod-eq_of_lt small

pub byte_weight : (m : ℕ) → 2 ^ (8 * m) ≡ 256 ^ m
byte_weight zero = refl
byte_weight (suc m) =
    let more : 8 * suc m ≡ 8 * m + 8 = omega arith in
    ap (λ (k : ℕ). 2 ^ k) more ∙ pow-add 2 (8 * m) 8 ∙ ap (λ (w : ℕ). w * 256) (byte_weight m) ∙ sym (pow-suc 256 m)

-- what stands above the k lowest digits has no influence on them
pub digits_of_high : (base k a r : ℕ) → 0 < base → digits base k (a * base ^ k + r) ≡ digits base k r
unfolding digits
digits_of_high base zero a r h = refl
digits_of_high base (suc k) a r h =
    let b : ℕ = base ^ k in
    let pos : 0 < b = one-le-pow k base h in
    let apart : a * base ^ suc k + r ≡ a * base * b + r = ap (λ (t : ℕ). t + r) (ap (λ (t : ℕ). a * t) (pow-succ' base k) ∙ sym (mul_assoc a base b)) in
    ap₂ (λ (x : ℕ) (xs : List ℕ). x ∷ xs)
    (ap (λ (t : ℕ). t / b % base) apart ∙ ap (λ (t : ℕ). t % base) (mul-add-div_right pos (a * base) r) ∙ mul-add-mod_self_right a base (r / b))
    (ap (digits base k) apart ∙ digits_of_high base k (a * base) r h)

-- the number of some digits has them
pub digits_of_joined : (base : ℕ) (ds : List ℕ) → Below base ds → digits base (length ds) (joined base 0 ds) ≡ ds
unfolding digits
digits_of_joined base [] h = refl
digits_of_joined base (d ∷ ds) h =
    let pos : 0 < base = omega (arith, h.0) in
    ap₂ (λ (x : ℕ) (xs : List ℕ). x ∷ xs)
    (ap (λ (t : ℕ). t / base ^ length ds % base) (joined_cons base d ds) ∙ ap (λ (t : ℕ). t % base) (digits_div d (joined_lt base ds h.1)) ∙ mod-eq_of_lt h.0)
    (ap (digits base (length ds)) (joined_cons base d ds) ∙ digits_of_high base (length ds) d (joined base 0 ds) pos ∙ digits_of_joined base ds h.1)

-- ---- packing

pub repacked_length : (p a q b n : ℕ) (xs : List ℕ) → length (repacked p a q b n xs) ≡ n * b
unfolding repacked
repacked_length p a q b zero xs = sym (Nat.zero-mul b)
repacked_length p a q b (suc n) xs =
    length-append (digits q b (joined p 0 (take a xs))) (repacked p a q b n (drop a xs))
    ∙ ap₂ ◌+◌ (digits_length q b (joined p 0 (take a xs))) (repacked_length p a q b n (drop a xs)) ∙ Nat.add_comm b (n * b) ∙ sym (suc-mul n b)

pub repacked_below : (p a q b n : ℕ) (xs : List ℕ) → 0 < q → Below q (repacked p a q b n xs)
unfolding repacked
repacked_below p a q b zero xs h = tt
repacked_below p a q b (suc n) xs h =
    all_append (λ d. d < q) (digits q b (joined p 0 (take a xs))) (repacked p a q b n (drop a xs)) (digits_below q b (joined p 0 (take a xs)) h) (repacked_below p a q b n (drop a xs) h)

group_comes_back : (p a q b : ℕ) (xs : List ℕ) → 0 < q → p ^ a ≡ q ^ b → length xs ≡ a → Below p xs → digits p a (joined q 0 (digits q b (joined p 0 xs))) ≡ xs
group_comes_back p a q b xs hq e l h =
    let x : ℕ = joined p 0 xs in
    let fits : x < q ^ b = subst (λ (t : ℕ). x < t) (ap (λ (t : ℕ). p ^ t) l ∙ e) (joined_lt p xs h) in
    ap (digits p a) (joined_of_digits q b x hq ∙ mod-eq_of_lt fits) ∙ ap (λ (t : ℕ). digits p t x) (sym l) ∙ digits_of_joined p xs h

-- n groups of a digits come back, if a group of the one kind holds as much as one of the other
pub packing_comes_back : (p a q b n : ℕ) (xs : List ℕ) → 0 < q → p ^ a ≡ q ^ b → length xs ≡ n * a → Below p xs → repacked q b p a n (repacked p a q b n xs) ≡ xs
unfolding repacked
packing_comes_back p a q b zero [] hq e l h = refl
packing_comes_back p a q b zero (x ∷ xs) hq e l h = absurd (omega (arith, l, Nat.zero-mul a))
packing_comes_back p a q b (suc n) xs hq e l h =
    let first : List ℕ = take a xs in
    let later : List ℕ = drop a xs in
    let ds : List ℕ = digits q b (joined p 0 first) in
    let rest : List ℕ = repacked p a q b n later in
    let all : length xs ≡ n * a + a = l ∙ suc-mul n a in
    let long : length first ≡ a = length-take-le a xs (omega arith) in
    let split : first ++ later ≡ xs = take-append-drop a xs in
    let both = all_of_append (λ d. d < p) first later (subst⁻¹ (Below p) split h) in
    ap₂ (λ (us vs : List ℕ). digits p a (joined q 0 us) ++ repacked q b p a n vs) (take_at ds rest b (digits_length q b (joined p 0 first))) (drop_at ds rest b (digits_length q b (joined p 0 first)))
    ∙ ap₂ (λ (us vs : List ℕ). us ++ vs) (group_comes_back p a q b first hq e long both.0) (packing_comes_back p a q b n later hq e (length-drop a xs ∙ omega arith) both.1)
    ∙ split

-- ---- the short page's groups, as the code packs them

pub group_of_bytes : (bytes : List ℕ) → digits 64 4 (joined 256 0 bytes) ≡ symbols_of bytes
unfolding digits
group_of_bytes bytes = refl

pub group_of_symbols : (symbols : List ℕ) → digits 256 3 (joined 64 0 symbols) ≡ bytes_of symbols
unfolding digits
group_of_symbols symbols = refl
