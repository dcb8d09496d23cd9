-- Big-endian numbers in a list of bytes.
use Rattle.std.specs.Prelude.{ℕ, zero, suc, ◌+◌, ◌*◌, ◌/◌, ◌%◌, cond, List, [], ◌∷◌, ◌++◌, length, take, drop, nat_le, slice_index}

-- the number that `width` bytes from `at` on hold; a byte past the end counts as 0
unfoldable pub num : List ℕ → ℕ → ℕ → ℕ
num bs at zero = 0
num bs at (suc width) = num bs at width * 256 + slice_index bs (at + width)

-- the last `width` bytes of a number, the highest first
abbrev pub digits : ℕ → ℕ → List ℕ
digits zero v = []
digits (suc width) v = digits width (v / 256) ++ (v % 256 ∷ [])

-- bytes written over those from `at` on, if they fit
unfoldable pub put_bytes : List ℕ → ℕ → List ℕ → List ℕ
put_bytes bs at ds = cond (nat_le (at + length ds) (length bs)) (take at bs ++ (ds ++ drop (at + length ds) bs)) bs

-- a number written into the `width` bytes from `at` on, if they fit
abbrev pub put_num : List ℕ → ℕ → ℕ → ℕ → List ℕ
put_num bs at width v = put_bytes bs at (digits width v)
