-- What is left by writes into records.
use Rattle.std.proofs.Common.{◌≡◌, ℕ, ◌+◌, ◌*◌, ◌^◌, ◌<◌, ◌≤◌, List, length, sym, ap, ◌∙◌, ⊎_elim, arith}
use Rattle.std.proofs.lemmas.Bool.{cases_eq}
use Rattle.history.specs.declared.item.Item.{Item}
use Rattle.layout.specs.Field.{num}
use Rattle.layout.specs.Layout.{item_at, next_at, pad_at, free_in}
use Rattle.chained.specs.Edits.{relink}
use Rattle.layout.specs.Edits.{Changed, Freed, with_next, with_item, with_free}
use Rattle.layout.proofs.Edit.{same_item, next_put, item_put, free_put}

-- a number fits its field
pub record Storable (x : Item) : Type 0 where
  pub start : x.start < 2 ^ 64
  pub «end» : x.«end» < 2 ^ 64
  pub mark : x.mark < 2 ^ 8
  pub number : x.number < 2 ^ 64

-- cs differs from bs at most in record x's item, in where records x and a go on to, and in the first free record
pub record Edited (bs : List ℕ) (a x : ℕ) (cs : List ℕ) : Type 0 where
  pub size : length cs ≡ length bs
  pub front : (from n : ℕ) → from + n ≤ 8 → num cs from n ≡ num bs from n
  pub back : num cs 10 22 ≡ num bs 10 22
  pub pads : (j : ℕ) → 0 < j → pad_at cs j ≡ pad_at bs j
  pub items : (j : ℕ) → 0 < j → (j ≡ x → ⊥) → item_at cs j ≡ item_at bs j
  pub nexts : (j : ℕ) → 0 < j → (j ≡ x → ⊥) → (j ≡ a → ⊥) → next_at cs j ≡ next_at bs j

pub changed_edited : {bs cs : List ℕ} {k n : ℕ} {x : Item} → Changed bs k x n cs → Edited bs k k cs
changed_edited c =
    record { size = c.size; front = λ from n l. c.head from n (omega arith); back = c.head 10 22 (omega arith); pads = λ j p. c.pads j; items = λ j p n. c.items j n; nexts = λ j p n _. c.nexts j n }

pub record Linked (bs : List ℕ) (a x : ℕ) (new : Item) (next after first : ℕ) (cs : List ℕ) : Type 0 where
  pub edited : Edited bs a x cs
  pub item : item_at cs x ≡ new
  pub link : next_at cs x ≡ next
  pub linked : next_at cs a ≡ after
  pub free : free_in cs ≡ first

pub relinked : (bs : List ℕ) (a x : ℕ) (new : Item) (next after first : ℕ) → 0 < a → 0 < x → (x ≡ a → ⊥) → 32 * a + 32 ≤ length bs → 32 * x + 32 ≤ length bs → Storable new → next < 2 ^ 16 → after < 2 ^ 16 → first < 2 ^ 16 → Linked bs a x new next after first (relink bs a x new next after first)
unfolding relink
relinked bs a x new next after first pa px ne fa fx s l m n =
    record {
      edited =
          record {
            size = f.size ∙ c3.size ∙ c2.size ∙ c1.size;
            front = λ from n l. f.before from n (omega arith) ∙ head from n (omega arith);
            back = f.after 10 22 (omega arith) ∙ head 10 22 (omega arith);
            pads = λ j p. f.after (32 * j + 19) 5 (omega arith) ∙ c3.pads j ∙ c2.pads j ∙ c1.pads j;
            items = λ j p n. stays j p ∙ c1.items j n;
            nexts = λ j p n m. f.after (32 * j + 16) 2 (omega arith) ∙ c3.nexts j m ∙ c2.nexts j n ∙ c1.nexts j n;
          };
      item = stays x px ∙ c1.item;
      link = f.after (32 * x + 16) 2 (omega arith) ∙ c3.nexts x ne ∙ c2.link;
      linked = f.after (32 * a + 16) 2 (omega arith) ∙ c3.link;
      free = f.first;
    }
  where
    b1 : List ℕ
    b1 = with_item bs x new

    b2 : List ℕ
    b2 = with_next b1 x next

    b3 : List ℕ
    b3 = with_next b2 a after

    c1 : Changed bs x new (next_at bs x) b1
    c1 = item_put bs x new px fx s.start s.«end» s.mark s.number

    c2 : Changed b1 x (item_at b1 x) next b2
    c2 = next_put b1 x px (omega (arith, c1.size)) next l

    c3 : Changed b2 a (item_at b2 a) after b3
    c3 = next_put b2 a pa (omega (arith, c1.size, c2.size)) after m

    f : Freed b3 first (with_free b3 first)
    f = free_put b3 first (omega (arith, c1.size, c2.size, c3.size)) n

    head : (from n : ℕ) → from + n ≤ 32 → num b3 from n ≡ num bs from n
    head from n l = c3.head from n l ∙ c2.head from n l ∙ c1.head from n l

    -- the last three writes leave every item
    same : {ds es : List ℕ} {k n : ℕ} → Changed ds k (item_at ds k) n es → (j : ℕ) → item_at es j ≡ item_at ds j
    same {ds} {es} {k} c j = ⊎_elim (λ e. ap (item_at es) e ∙ c.item ∙ sym (ap (item_at ds) e)) (λ n. c.items j n) (cases_eq j k)

    stays : (j : ℕ) → 0 < j → item_at (with_free b3 first) j ≡ item_at b1 j
    stays j p =
        same_item (f.after (32 * j) 8 (omega arith)) (f.after (32 * j + 8) 8 (omega arith)) (f.after (32 * j + 18) 1 (omega arith)) (f.after (32 * j + 24) 8 (omega arith))
        ∙ same c3 j ∙ same c2 j
