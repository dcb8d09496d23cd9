-- What a line spells, told apart from how it is read.
use Rattle.std.specs.Prelude.{◌≡◌, ℕ, ◌≤◌, true, ◌⊎◌, List, [], ◌∷◌, ◌++◌, length, ℤ, pos, neg_ℤ, Some, decimal}
use Rattle.std.specs.Str.Parse.{digits_value}
use Rattle.std.specs.Fmt.{signed_decimal}
use Rattle.std.specs.List.{AllByRecursion}
use Rattle.std.specs.Str.{all_ascii_digits}
use Rattle.kinds.specs.declared.seats.Seats.{Seats}
use Rattle.ledger.specs.declared.call.Call.{Call}
use Rattle.ledger.specs.declared.call.Call.TheVariants.{Begin, Read, Update, Commit, Abort, Glance, Tick, Settle, Standing}
use Rattle.ledger.specs.declared.call.Answer.{Answer}
use Rattle.script.specs.Format.{call_of}
use Rattle.script.specs.Lines.{lines}
use Rattle.script.specs.Printed.{shown, printed}

-- a field is a number, or a value, which alone may have a minus sign
pub data Field : Type 0 where
  plain : ℕ → Field
  seats : ℤ → Field

abbrev pub letter : Call Seats → ℕ
letter (Begin r site lifetime) = 98
letter (Read t o) = 114
letter (Update t o v) = 117
letter (Commit t) = 99
letter (Abort t) = 97
letter (Glance site o) = 103
letter (Tick site clock) = 116
letter (Settle o) = 115
letter (Standing r) = 113

-- a ticket is two fields
abbrev pub fields : Call Seats → List Field
fields (Begin r site lifetime) = plain r ∷ plain site ∷ plain lifetime ∷ []
fields (Read t o) = plain t.0 ∷ plain t.1 ∷ plain o ∷ []
fields (Update t o v) = plain t.0 ∷ plain t.1 ∷ plain o ∷ seats v.value ∷ []
fields (Commit t) = plain t.0 ∷ plain t.1 ∷ []
fields (Abort t) = plain t.0 ∷ plain t.1 ∷ []
fields (Glance site o) = plain site ∷ plain o ∷ []
fields (Tick site clock) = plain site ∷ plain clock ∷ []
fields (Settle o) = plain o ∷ []
fields (Standing r) = plain r ∷ []

-- 1 to 10 digits write a number up to 4,294,967,295
pub record Number (text : List ℕ) (n : ℕ) : Type 0 where
  pub some : 1 ≤ length text
  pub few : length text ≤ 10
  pub digits : all_ascii_digits text ≡ true
  pub writes : digits_value 10 text ≡ n
  pub bounded : n ≤ 4294967295

-- a minus sign, and digits that write n
pub record Negative (text : List ℕ) (n : ℕ) : Type 0 where
  pub digits : List ℕ
  pub sign : text ≡ 45 ∷ digits
  pub number : Number digits n

abbrev pub Text : List ℕ → Field → Type 0
Text text (plain n) = Number text n
Text text (seats z) = (n : ℕ) × ((Number text n × (z ≡ pos n)) ⊎ (Negative text n × (z ≡ neg_ℤ (pos n))))

-- fields, each after one blank, and nothing behind the last
abbrev pub Fields : List ℕ → List Field → Type 0
Fields bs [] = bs ≡ []
Fields bs (f ∷ fs) = (text : List ℕ) × (rest : List ℕ) × (bs ≡ 32 ∷ (text ++ rest)) × Text text f × Fields rest fs

-- a call's letter, and then its fields
abbrev pub Spells : List ℕ → Call Seats → Type 0
Spells line c = (rest : List ℕ) × (line ≡ letter c ∷ rest) × Fields rest (fields c)

-- the line that a call is printed as

abbrev pub text_of : Field → List ℕ
text_of (plain n) = decimal n
text_of (seats z) = signed_decimal z

abbrev pub spaced : List Field → List ℕ
spaced [] = []
spaced (f ∷ fs) = 32 ∷ (text_of f ++ spaced fs)

abbrev pub line_of : Call Seats → List ℕ
line_of c = letter c ∷ spaced (fields c)

-- a number that a line can spell
abbrev pub Fits : Field → Type 0
Fits (plain n) = n ≤ 4294967295
Fits (seats z) = Unit {0}

-- a line is read as a call exactly if it spells it; a call's own line is read back as it; an answer is printed as one line
pub record LinesStand : Type 0 where
  pub reads : (line : List ℕ) (c : Call Seats) → call_of line ≡ Some c → Spells line c
  pub spells : (line : List ℕ) (c : Call Seats) → Spells line c → call_of line ≡ Some c
  pub back : (c : Call Seats) → AllByRecursion Fits (fields c) → call_of (line_of c) ≡ Some c
  pub prints : (a : Answer Seats) (rest : List ℕ) → lines (printed a ++ rest) ≡ shown a ∷ lines rest
