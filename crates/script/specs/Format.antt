-- The format of script lines: the call that a line spells.
use Rattle.std.specs.Prelude.{◌≡◌, ℕ, Bool, cond, not, ◌&&◌, List, [], ◌∷◌, length, take, drop, ℤ, pos, neg_ℤ, Some, None, Option, ◌==◌, nat_le, slice_index}
use Rattle.std.specs.Int.Signed.{mag}
use Rattle.std.specs.Str.Parse.{digits_value, starts_with_minus}
use Rattle.std.specs.List.{prefix_len}
use Rattle.std.specs.Str.{all_ascii_digits}
use Rattle.kinds.specs.declared.seats.Seats.{Seats}
use Rattle.ledger.specs.declared.call.Call.{Call}
use Rattle.ledger.specs.declared.call.Call.TheVariants.{Begin, Read, Update, Commit, Abort, Glance, Tick, Settle, Standing}
use Rattle.kinds.specs.Forms.{seats_form, seats_parse}

-- what comes of an answer, if there is one
abbrev pub after : {A B : Type 0} → Option A → (A → Option B) → Option B
after None f = None
after (Some a) f = f a

-- a byte that is no separator s
abbrev pub differs : ℕ → ℕ → Bool
differs s b = not (b == s)

-- a number: 1 to 10 digits, and at most 4,294,967,295
abbrev pub number_in : List ℕ → Option ℕ
number_in text =
    cond (nat_le 1 (length text) && (nat_le (length text) 10 && (all_ascii_digits text && nat_le (digits_value 10 text) 4294967295)))
    (Some (digits_value 10 text)) None

-- the seats of a value from -32,768 to 32,767, where mag is n of both n and -(n + 1)
abbrev pub seats_of : ℤ → Option Seats
seats_of z = cond (nat_le (mag z) 32767) (seats_parse (seats_form z)) None

-- a value: a number, perhaps behind a minus sign
abbrev pub value_in : List ℕ → Option Seats
value_in text =
    cond (starts_with_minus text) (after (number_in (drop 1 text)) (λ n. seats_of (neg_ℤ (pos n))))
    (after (number_in text) (λ n. seats_of (pos n)))

-- the next field of a line, what stands after one blank and up to the next, and what follows it
abbrev pub field : List ℕ → Option (List ℕ × List ℕ)
field bs =
    cond (slice_index bs 0 == 32)
    (Some (take (prefix_len (differs 32) (drop 1 bs)) (drop 1 bs), drop (prefix_len (differs 32) (drop 1 bs)) (drop 1 bs)))
    None

abbrev pub read_number : List ℕ → Option (ℕ × List ℕ)
read_number bs = after (field bs) (λ f. after (number_in f.0) (λ n. Some (n, f.1)))

abbrev pub read_value : List ℕ → Option (Seats × List ℕ)
read_value bs = after (field bs) (λ f. after (value_in f.0) (λ v. Some (v, f.1)))

-- two things, one after the other
abbrev pub both : {A B : Type 0} → (List ℕ → Option (A × List ℕ)) → (List ℕ → Option (B × List ℕ)) → List ℕ → Option ((A × B) × List ℕ)
both first second bs = after (first bs) (λ a. after (second a.1) (λ b. Some ((a.0, b.0), b.1)))

-- what is made of what is read
abbrev pub made : {A B : Type 0} → (A → B) → (List ℕ → Option (A × List ℕ)) → List ℕ → Option (B × List ℕ)
made make read bs = after (read bs) (λ a. Some (make a.0, a.1))

abbrev pub read_ticket : List ℕ → Option ((ℕ × ℕ) × List ℕ)
read_ticket = both read_number read_number

-- the fields of a call by its letter: b, r, u, c, a, g, t, s or q
abbrev pub read_call : ℕ → List ℕ → Option (Call Seats × List ℕ)
read_call letter bs =
    cond (letter == 98) (made (λ n. Begin n.0 n.1.0 n.1.1) (both read_number (both read_number read_number)) bs)
    (cond (letter == 114) (made (λ n. Read n.0 n.1) (both read_ticket read_number) bs)
    (cond (letter == 117) (made (λ n. Update n.0 n.1.0 n.1.1) (both read_ticket (both read_number read_value)) bs)
    (cond (letter == 99) (made Commit read_ticket bs)
    (cond (letter == 97) (made Abort read_ticket bs)
    (cond (letter == 103) (made (λ n. Glance n.0 n.1) (both read_number read_number) bs)
    (cond (letter == 116) (made (λ n. Tick n.0 n.1) (both read_number read_number) bs)
    (cond (letter == 115) (made Settle read_number bs)
    (cond (letter == 113) (made Standing read_number bs)
    None))))))))

-- an answer, where nothing follows
abbrev pub ended : {A : Type 0} → A × List ℕ → Option A
ended a = cond (length a.1 == 0) (Some a.0) None

-- the call that a line spells, if it spells one
abbrev pub call_of : List ℕ → Option (Call Seats)
call_of [] = None
call_of (letter ∷ bs) = after (read_call letter bs) ended

-- what a reader answers and leaves, by what there is to read
abbrev pub Takes : {A : Type 0} → Option (A × List ℕ) → Option A → List ℕ → Type 0
Takes read None rest = read ≡ None
Takes read (Some a) rest = read ≡ Some (a, rest)
