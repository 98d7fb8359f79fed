-- For the code's contracts: the input as a buffer holds it. Assumes nothing.
use Rattle.std.specs.Prelude.{List, ◌≡◌, ℕ, length, take}
use Rattle.readpage.specs.Report.{output_of}

-- reading an input to the end, or until the buffer was full, put n bytes into the buffer: they are the input's first
abbrev pub WasRead : List ℕ → List ℕ → ℕ → Type 0
WasRead input buffer n = take (length buffer) input ≡ take n buffer

-- the text is the output for every input that may have been read so
abbrev pub PrintedFor : List ℕ → ℕ → List ℕ → Type 0
PrintedFor buffer n text = (input : List ℕ) → WasRead input buffer n → text ≡ output_of input
