-- `listing::Text::append_hex` meets its contract. The loop's invariant: the bytes passed stand in hexadecimal behind what was there. Assumes nothing.
use Rattle.std.proofs.Common.{◌≡◌, ◌++◌, take}
use Rattle.listing.specs.Text.{hex_of}
use Rattle.listing.proofs.Text.append_hex.Given as goal

abbrev pub invariant-loop-b : goal.invariant-loop-b
invariant-loop-b g l = l.self ≡ l.initial.self ++ hex_of (take l.b-index l.bytes)
