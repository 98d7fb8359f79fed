-- For the code's contracts: where a part lies. Assumes nothing.
use Rattle.std.specs.Prelude.{◌≡◌, ℕ, ◌+◌}

-- the pointer p is n places behind the pointer q
abbrev pub placed_at : ℕ × ℕ → ℕ × ℕ → ℕ → Type 0
placed_at p q n = p ≡ (q.0, q.1 + n)
