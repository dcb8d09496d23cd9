-- Bytes that are laid out anew.
use Rattle.std.specs.Prelude.{◌≡◌, ℕ, ◌+◌, ◌-◌, ◌*◌, Bool, true, cond, ◌&&◌, List, [], ◌∷◌, ◌++◌, map, replicate, ◌==◌, nat_lt}
use Rattle.std.specs.List.{range_with_len, flat_map}
use Rattle.history.specs.Chain.{fresh_item}
use Rattle.layout.specs.Field.{digits, put_num}
use Rattle.layout.specs.Layout.{magic, objects_in, records_in, free_in, item_at, path, paths, sized, lawful}

-- n objects and m records fit `size` bytes, with `count` numbers
abbrev pub fits : ℕ → ℕ → ℕ → ℕ → Bool
fits n m size count = sized n m size && count == n

abbrev pub zeros : ℕ → List ℕ
zeros n = replicate n 0

-- the record after k, or 0 after the last
abbrev pub after : ℕ → ℕ → ℕ
after m k = cond (nat_lt k m) (k + 1) 0

-- a header, whose first free record is the one after the objects'
abbrev pub head : ℕ → ℕ → List ℕ
head n m = magic ++ (digits 2 n ++ (digits 2 m ++ (digits 2 (after m n) ++ zeros 22)))

-- a record that is zero but for a number in the `width` bytes from `at` on
abbrev pub row : ℕ → ℕ → ℕ → List ℕ
row at width v = zeros at ++ (digits width v ++ zeros (32 - (at + width)))

-- a version from 0 to 0 for each number, and the other records free in ascending order
unfoldable pub laid_out : ℕ → ℕ → List ℕ → List ℕ
laid_out n m numbers = head n m ++ (flat_map (row 24 8) numbers ++ flat_map (row 16 2) (map (after m) (range_with_len (n + 1) (m - n))))

-- what such bytes hold
pub record Laid (n m : ℕ) (numbers bs : List ℕ) : Type 0 where
  pub lawful : lawful bs ≡ true
  pub objects : objects_in bs ≡ n
  pub records : records_in bs ≡ m
  pub chains : map (map (item_at bs)) (paths bs) ≡ map (λ v. fresh_item 0 0 v ∷ []) numbers
  pub free : path bs (free_in bs) ≡ range_with_len (n + 1) (m - n)

-- numbers written at one place of records that follow one another, from record k on
abbrev pub with_rows : ℕ → ℕ → List ℕ → ℕ → List ℕ → List ℕ
with_rows at width bs k [] = bs
with_rows at width bs k (v ∷ vs) = with_rows at width (put_num bs (32 * k + at) width v) (k + 1) vs
