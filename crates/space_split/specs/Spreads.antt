-- The bits of a number with room between them, by which the codes of points are made.
use Rattle.std.specs.Prelude.{ℕ, zero, suc, ◌+◌, ◌*◌, ◌/◌, ◌%◌, ◌<◌, ◌≡◌, List, slice_index}

-- so many of the lowest bits of a number, each two places apart from the next
unfoldable pub spread_of : ℕ → ℕ → ℕ
spread_of zero v = 0
spread_of (suc bits) v = v % 2 + 8 * spread_of bits (v / 2)

-- the spread bits of all numbers of seven bits
abbrev pub AreSpreads : List ℕ → Type 0
AreSpreads table = (k : ℕ) → k < 128 → slice_index table k ≡ spread_of 7 k

-- the octants of seven levels one after another, by the lowest seven bits of the coordinates
abbrev pub octants_by : ℕ → ℕ → ℕ → ℕ
octants_by x y z = 4 * spread_of 7 (x % 128) + 2 * spread_of 7 (y % 128) + spread_of 7 (z % 128)
