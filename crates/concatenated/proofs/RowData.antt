-- The data of the rows: each row has its part of the data symbols, and the rows together have all. Assumes nothing.
use mathlib.Core.Path.{◌≡◌, refl, sym, ap, ap₂, ◌∙◌, subst, subst⁻¹}
use mathlib.Core.Logic.{⊎_elim}
use mathlib.Core.List.{List, [], ◌++◌}
use Prim.Native.Nat.{ℕ, zero, suc, ◌+◌, ◌-◌, ◌≤◌, ◌<◌}
use native.Mathlib.Nat
use native.Mathlib.Nat.{not-suc-le-zero, suc_inj, le_of_suc-le-suc, eq-or-lt_of_le}
use native.Mathlib.Omega.{arith}
use lib.Pow.{pow_pos}
use lib.ListN.{length, length-append, length-drop, get_or, take, drop, take-append-drop}
use lib.Seq.{length-take-le, take_all, take-add, take-take, take-append-le, drop-append-le, drop_at}
use Rattle.column.specs.Shape.{levels}
use Rattle.reedsolomon.specs.Search.{WordOf}
use Rattle.concatenated.specs.Format.{Format, SoundFormat, symbol_values, data_length, data_count, data_before}
use Rattle.concatenated.specs.Data.{data_symbols, data_bytes}
use Rattle.concatenated.specs.Written.{row_data, rows_data, bytes_of_rows}
use Rattle.concatenated.proofs.Lists.{all_append, all_of_append}
use Rattle.concatenated.proofs.Digits.{Below, below_is_word, word_is_below, packing_comes_back, repacked_length, repacked_below}

module _ (P : Format) where
  data_before_grows : (i k : ℕ) → data_before P i ≤ data_before P (k + i)
  unfolding data_before
  data_before_grows i zero = subst (λ (t : ℕ). data_before P i ≤ data_before P t) (sym (Nat.zero-add i)) (omega arith)
  data_before_grows i (suc k) = subst (λ (t : ℕ). data_before P i ≤ data_before P t) (sym (Nat.suc-add k i)) (omega (arith, data_before_grows i k))

  -- the data of a row lie within all data
  pub row_data_within : (i n : ℕ) → i < n → data_before P i + data_count P i ≤ data_before P n
  unfolding data_before
  row_data_within i n h =
      let e : n - suc i + suc i ≡ n = omega arith in
      subst (λ (t : ℕ). data_before P (suc i) ≤ data_before P t) e (data_before_grows (suc i) (n - suc i))

  module _ (xs : List ℕ) (all : length xs ≡ data_before P (levels P.shape)) where
    row_data_length : (i : ℕ) → i < levels P.shape → length (row_data P xs i) ≡ data_count P i
    unfolding row_data
    row_data_length i h =
        length-take-le (data_count P i) (drop (data_before P i) xs) (omega (arith, length-drop (data_before P i) xs, row_data_within i (levels P.shape) h))

    pub row_data_is_a_word : (q : ℕ) → Below q xs → (i : ℕ) → i < levels P.shape → WordOf q (data_count P i) (row_data P xs i)
    unfolding row_data
    row_data_is_a_word q h i hi =
        let later : List ℕ = drop (data_before P i) xs in
        let below_later = (all_of_append (λ x. x < q) (take (data_before P i) xs) later (subst⁻¹ (Below q) (take-append-drop (data_before P i) xs) h)).1 in
        let Below-row = (all_of_append (λ x. x < q) (take (data_count P i) later) (drop (data_count P i) later) (subst⁻¹ (Below q) (take-append-drop (data_count P i) later) below_later)).0 in
        subst (λ (n : ℕ). WordOf q n (take (data_count P i) later)) (row_data_length i hi) (below_is_word q (take (data_count P i) later) Below-row)

    -- rows with these data in front have all data
    module _ (rs : List (List ℕ)) (fronts : (i : ℕ) → i < levels P.shape → take (data_count P i) (get_or rs i []) ≡ row_data P xs i) where
      rows_data_below : (n : ℕ) → n ≤ levels P.shape → rows_data P rs n ≡ take (data_before P n) xs
      unfolding rows_data data_before row_data
      rows_data_below zero h = refl
      rows_data_below (suc n) h =
          ap₂ (λ (us vs : List ℕ). us ++ vs) (rows_data_below n (omega arith)) (fronts n (omega arith)) ∙ sym (take-add (data_before P n) (data_count P n) xs)

      pub rows_have_all_data : rows_data P rs (levels P.shape) ≡ xs
      rows_have_all_data = rows_data_below (levels P.shape) (omega arith) ∙ take_all (data_before P (levels P.shape)) xs (omega arith)

  -- ---- from rows: the data in front of them, as many as there are places for them, and symbols
  module _ (rs : List (List ℕ)) (words : (i : ℕ) → i < levels P.shape → WordOf (symbol_values P) P.columns (get_or rs i [])) where
    front_is_a_word : (i : ℕ) → i < levels P.shape → (length (take (data_count P i) (get_or rs i [])) ≡ data_count P i) × Below (symbol_values P) (take (data_count P i) (get_or rs i []))
    front_is_a_word i h =
        let row = get_or rs i [] in
        let count = data_count P i in (
          length-take-le count row (omega (arith, (words i h).0)),
          (all_of_append (λ x. x < symbol_values P) (take count row) (drop count row) (subst⁻¹ (Below (symbol_values P)) (take-append-drop count row) (word_is_below (symbol_values P) P.columns row (words i h)))).0,
        )

    pub rows_data_length : (n : ℕ) → n ≤ levels P.shape → length (rows_data P rs n) ≡ data_before P n
    unfolding rows_data data_before
    rows_data_length zero h = refl
    rows_data_length (suc n) h = length-append (rows_data P rs n) (take (data_count P n) (get_or rs n [])) ∙ ap₂ ◌+◌ (rows_data_length n (omega arith)) (front_is_a_word n (omega arith)).0

    pub rows_data_in_range : (n : ℕ) → n ≤ levels P.shape → Below (symbol_values P) (rows_data P rs n)
    unfolding rows_data
    rows_data_in_range zero h = tt
    rows_data_in_range (suc n) h =
        all_append (λ x. x < symbol_values P) (rows_data P rs n) (take (data_count P n) (get_or rs n [])) (rows_data_in_range n (omega arith)) (front_is_a_word n (omega arith)).1

    -- each row finds its own
    pub row_data_of_rows : (n : ℕ) → n ≤ levels P.shape → (i : ℕ) → i < n → row_data P (rows_data P rs n) i ≡ take (data_count P i) (get_or rs i [])
    unfolding rows_data row_data
    row_data_of_rows zero h i l = absurd (not-suc-le-zero l)
    row_data_of_rows (suc n) h i l =
        ⊎_elim
        (λ e.
        let last : i ≡ n = suc_inj e in
        ap (λ (k : ℕ). take (data_count P k) (drop (data_before P k) (xs ++ new))) last ∙ ap (take (data_count P n)) (drop_at xs new (data_before P n) (rows_data_length n (omega arith)))
        ∙ take-take (data_count P n) (data_count P n) (get_or rs n []) (omega arith) ∙ ap (λ (k : ℕ). take (data_count P k) (get_or rs k [])) (sym last))
        (λ u.
        let lower : i < n = le_of_suc-le-suc u in
        let inside = row_data_within i n lower in
        let long = rows_data_length n (omega arith) in
        ap (take (data_count P i)) (drop-append-le (data_before P i) xs new (omega (arith, inside, long)))
        ∙ take-append-le (data_count P i) (drop (data_before P i) xs) new (omega (arith, inside, long, length-drop (data_before P i) xs))
        ∙ row_data_of_rows n (omega arith) i lower)
        (eq-or-lt_of_le l)
      where
        xs : List ℕ
        xs = rows_data P rs n

        new : List ℕ
        new = take (data_count P n) (get_or rs n [])

    -- their bytes have their symbols
    pub symbols_of_rows_come_back : SoundFormat P → data_symbols P (bytes_of_rows P rs) ≡ rows_data P rs (levels P.shape)
    unfolding bytes_of_rows
    symbols_of_rows_come_back ok =
        packing_comes_back (symbol_values P) P.group_symbols 256 P.group_bytes P.groups (rows_data P rs (levels P.shape)) (omega arith) (sym ok.packs)
        (rows_data_length (levels P.shape) (omega arith) ∙ ok.holds) (rows_data_in_range (levels P.shape) (omega arith))

  -- ---- from bytes

  module _ (ok : SoundFormat P) (bytes : List ℕ) where
    pub data_symbols_fill_the_rows : length (data_symbols P bytes) ≡ data_before P (levels P.shape)
    data_symbols_fill_the_rows = repacked_length 256 P.group_bytes (symbol_values P) P.group_symbols P.groups bytes ∙ sym ok.holds

    pub data_symbols_in_range : Below (symbol_values P) (data_symbols P bytes)
    data_symbols_in_range = repacked_below 256 P.group_bytes (symbol_values P) P.group_symbols P.groups bytes (pow_pos P.shape.symbol)

    -- the symbols of data are its bytes again
    pub data_come_back : length bytes ≡ data_length P → Below 256 bytes → data_bytes P (data_symbols P bytes) ≡ bytes
    data_come_back =
        packing_comes_back 256 P.group_bytes (symbol_values P) P.group_symbols P.groups bytes (pow_pos P.shape.symbol) ok.packs

    -- rows with the data in front hold the bytes
    pub bytes_of_rows_with_data : length bytes ≡ data_length P → Below 256 bytes → (rs : List (List ℕ))
        → ((i : ℕ) → i < levels P.shape → take (data_count P i) (get_or rs i []) ≡ row_data P (data_symbols P bytes) i) → bytes_of_rows P rs ≡ bytes
    unfolding bytes_of_rows
    bytes_of_rows_with_data l h rs fronts =
        ap (data_bytes P) (rows_have_all_data (data_symbols P bytes) data_symbols_fill_the_rows rs fronts) ∙ data_come_back l h
