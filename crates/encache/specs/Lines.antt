-- What the lines of a cache hold, and how each operation changes one.
use Rattle.std.specs.Prelude.{◌≡◌, ℕ, ◌%◌, Bool, true, cond, ◌&&◌, List, [], Some, None, Ok, Err, Option, Result, ◌==◌, slice_index_or, slice_set, replicate, MatchBool}
use Rattle.history.specs.declared.item.Item.{Item}
use Rattle.history.specs.declared.item.Fault.{Fault}
use Rattle.history.specs.Chain.{has_item, has_start, covers, extends, seals}
use Rattle.history.specs.Meaning.{Op}
use Rattle.history.specs.Meaning.Op.{Find, At, Extend, Put, Seal, Drop}
use Rattle.encache.specs.declared.line.Line.{Line}

abbrev pub Lines : Type 0
Lines = List (Option Line)

-- a cache as callers see it: the store below, and the lines
pub record Cached (S : Type 0) : Type 0 where
  pub below : S
  pub lines : Lines

abbrev pub empty_lines : Lines
empty_lines = replicate 8 None

-- the line that an object uses
abbrev pub line_of : Lines → ℕ → Option Line
line_of lines o = slice_index_or lines (o % 8) None

abbrev pub full : ℕ → Item → Option Line
full o x = Some (record { object = o; item = x })

-- a line at k is empty, or holds an object that uses line k and an item of that object's chain
abbrev pub line_ok : List (List Item) → ℕ → Option Line → Bool
line_ok chains k None = true
line_ok chains k (Some l) = l.object % 8 == k && has_item l.item (slice_index_or chains l.object [])

abbrev pub Held : List (List Item) → Lines → Type 0
Held chains lines = (k : ℕ) → line_ok chains k (slice_index_or lines k None) ≡ true

-- the item that the line has for a time of an object
abbrev pub hit_line : ℕ → ℕ → Option Line → Option Item
hit_line o p None = None
hit_line o p (Some l) = cond (l.object == o && covers p l.item) (Some l.item) None

-- a line whose item, if it is of the object, is changed
abbrev pub changed_line : ℕ → (Item → Item) → Option Line → Option Line
changed_line o f None = None
changed_line o f (Some l) = cond (l.object == o) (full o (f l.item)) (Some l)

-- the same, where `change` relates an item to what it is changed to
abbrev pub ChangedBy : (Item → Item → Type 0) → ℕ → Option Line → Option Line → Type 0
ChangedBy change o None r = r ≡ None
ChangedBy change o (Some l) r = MatchBool (l.object == o) ((x : Item) × change l.item x × (r ≡ full o x)) (r ≡ Some l)

-- a line that is emptied if its item is of the object and has the start
abbrev pub cleared_line : ℕ → ℕ → Option Line → Option Line
cleared_line o s None = None
cleared_line o s (Some l) = cond (l.object == o && has_start s l.item) None (Some l)

-- the lines after an accepted operation on an object
abbrev pub lines_after : Lines → ℕ → Op → Lines
lines_after lines o (Find p) = lines
lines_after lines o At = lines
lines_after lines o (Extend s p) = slice_set lines (o % 8) (changed_line o (extends s p) (line_of lines o))
lines_after lines o (Put p mark n) = lines
lines_after lines o (Seal s) = slice_set lines (o % 8) (changed_line o (seals s) (line_of lines o))
lines_after lines o (Drop s) = slice_set lines (o % 8) (cleared_line o s (line_of lines o))

-- the lines by the answer: what is found goes into its object's line, and a refusal changes no line
abbrev pub lines_found : Lines → ℕ → Result Item Fault → Lines
lines_found lines o (Ok x) = slice_set lines (o % 8) (full o x)
lines_found lines o (Err f) = lines

abbrev pub lines_by : Lines → ℕ → Op → Result (Unit {0}) Fault → Lines
lines_by lines o op (Ok done) = lines_after lines o op
lines_by lines o op (Err f) = lines

-- where the line has the item, it is answered and the store below is not asked
abbrev pub Spared : {S : Type 0} → ℕ → ℕ → Option Line → Result Item Fault → S → S → Type 0
Spared o p line r below after = (x : Item) → hit_line o p line ≡ Some x → (r ≡ Ok x) × (after ≡ below)
