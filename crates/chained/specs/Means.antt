-- What bytes mean as a store.
use Rattle.std.specs.Prelude.{◌≡◌, ℕ, cond, List, [], map, length, nat_lt}
use Rattle.history.specs.Meaning.{Meaning, objects_of}
use Rattle.layout.specs.Layout.{objects_in, free_in, item_at, path, paths, lawful}
use Rattle.chained.specs.Edits.{chained_writes}

-- what lawful bytes mean; other bytes have no objects
unfoldable pub meaning : List ℕ → Meaning
meaning bs =
    record {
      chains = cond (lawful bs) (map (map (item_at bs)) (paths bs)) [];
      room = λ _. length (path bs (free_in bs));
      origin = λ _ _. 0;
      image = bs;
      writes = chained_writes;
    }

-- the objects of a store over the bytes
unfoldable pub served : List ℕ → ℕ
served bs = cond (lawful bs) (objects_in bs) 0

-- bytes under a store that means m: lawful exactly if it has objects, and a store over them means m again
pub record Reopens (m : Meaning) (bs : List ℕ) : Type 0 where
  pub image : bs ≡ m.image
  pub lawful : lawful bs ≡ nat_lt 0 (objects_of m)
  pub means : meaning bs ≡ m
