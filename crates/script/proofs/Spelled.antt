-- A line is read as a call exactly if it spells it.
use Rattle.std.proofs.Common.{◌≡◌, ℕ, ◌<◌, true, false, cond, eqb, List, [], ◌∷◌, ◌++◌, length, get_or, drop, append_assoc, pos, neg_ℤ, Some, Option, sym, refl, ap, ◌∙◌, subst, inl, inr, arith}
use Rattle.std.specs.Str.Parse.{starts_with_minus}
use Rattle.std.specs.Char.{is_ascii_digit}
use Rattle.std.specs.List.{prefix_len}
use Rattle.std.specs.Str.{all_ascii_digits}
use Rattle.std.proofs.lemmas.List.{take-append-drop, take_at, drop_at, nil_from_length}
use Rattle.std.proofs.lemmas.Bool.{and_parts, eqb-true, ne_eqb, cond-true, cond-false, cond_both, not_from_false}
use Rattle.kinds.specs.declared.seats.Seats.{Seats}
use Rattle.ledger.specs.declared.call.Call.{Call}
use Rattle.ledger.specs.declared.call.Call.TheVariants.{Begin, Read, Update, Commit, Abort, Glance, Tick, Settle, Standing}
use Rattle.script.proofs.Numbers.{digit_range, number_text, text_number, number_digit}
use Rattle.script.proofs.Options.{some_is, never, after_is, cond_is}
use Rattle.script.proofs.Values.{in_range, seats_value_is}
use Rattle.script.specs.Format.{after, number_in, seats_of, value_in, differs, field, read_number, read_value, both, made, ended, read_ticket, read_call, call_of}
use Rattle.script.specs.Spelling.{Field, plain, seats, letter, fields, Number, Text, Fields, Spells}

-- from what is read to what is spelled

-- a list by its first byte, which is not 0
first_is : (bs : List ℕ) (b : ℕ) → 0 < b → get_or bs 0 0 ≡ b → bs ≡ b ∷ drop 1 bs
first_is [] b some e = absurd (omega arith)
first_is (x ∷ bs) b some e = ap (λ y. y ∷ bs) e

minus_first : (t : List ℕ) → starts_with_minus t ≡ true → t ≡ 45 ∷ drop 1 t
minus_first t m = first_is t 45 (omega arith) (eqb-true (get_or t 0 0) 45 m)

value_text : (t : List ℕ) (v : Seats) → value_in t ≡ Some v → Text t (seats v.value)
value_text t v =
    cond_both (starts_with_minus t) _ _ (λ o. o ≡ Some v → Text t (seats v.value))
    (λ m e.
    let p = after_is (number_in (drop 1 t)) (λ n. seats_of (neg_ℤ (pos n))) e in
    (p.0, inr (record { digits = drop 1 t; sign = minus_first t m; number = number_text (drop 1 t) p.0 p.1 }, seats_value_is _ v p.2)))
    (λ m e.
    let p = after_is (number_in t) (λ n. seats_of (pos n)) e in
    (p.0, inl (number_text t p.0 p.1, seats_value_is _ v p.2)))

-- a field's bytes: the blank, the text, and what follows
field_bytes : (bs : List ℕ) (f : List ℕ × List ℕ) → field bs ≡ Some f → bs ≡ 32 ∷ (f.0 ++ f.1)
field_bytes bs f e =
    let p = cond_is (eqb (get_or bs 0 0) 32) e in
    let b = eqb-true (get_or bs 0 0) 32 p.0 in
    first_is bs 32 (omega arith) b ∙ ap (λ l. 32 ∷ l) (sym (take-append-drop (prefix_len (differs 32) (drop 1 bs)) (drop 1 bs))) ∙ ap (λ (g : List ℕ × List ℕ). 32 ∷ (g.0 ++ g.1)) p.1

-- from what is spelled to what is read

digit_differs : (c : ℕ) → is_ascii_digit c ≡ true → differs 32 c ≡ true
digit_differs c e = let r = digit_range c e in not_from_false _ (ne_eqb c 32 (λ h. omega arith))

digits_lead : (t rest : List ℕ) → all_ascii_digits t ≡ true → prefix_len (differs 32) rest ≡ 0 → prefix_len (differs 32) (t ++ rest) ≡ length t
digits_lead [] rest d stops = stops
digits_lead (c ∷ t) rest d stops =
    let p = and_parts (is_ascii_digit c) (all_ascii_digits t) d in
    let more = digits_lead t rest p.1 stops in
    cond-true _ _ _ (digit_differs c p.0) ∙ omega arith

text_lead : (t rest : List ℕ) (f : Field) → Text t f → prefix_len (differs 32) rest ≡ 0 → prefix_len (differs 32) (t ++ rest) ≡ length t
text_lead t rest (plain n) h stops = digits_lead t rest h.digits stops
text_lead t rest (seats z) (n, inl h) stops = digits_lead t rest h.0.digits stops
text_lead t rest (seats z) (n, inr h) stops =
    let lead = digits_lead h.0.digits rest h.0.number.digits stops in
    let signed : prefix_len (differs 32) (45 ∷ (h.0.digits ++ rest)) ≡ length (45 ∷ h.0.digits) = omega arith in
    subst (λ (l : List ℕ). prefix_len (differs 32) (l ++ rest) ≡ length l) (sym h.0.sign) signed

fields_stop : (bs : List ℕ) (fs : List Field) → Fields bs fs → prefix_len (differs 32) bs ≡ 0
fields_stop bs [] h = ap (prefix_len (differs 32)) h
fields_stop bs (f ∷ fs) h = ap (prefix_len (differs 32)) h.2

field_text : (t rest : List ℕ) → prefix_len (differs 32) (t ++ rest) ≡ length t → field (32 ∷ (t ++ rest)) ≡ Some (t, rest)
field_text t rest e = rw e (rw (take_at t rest (length t) refl, drop_at t rest (length t) refl))

-- the first of the fields
first_field : (bs : List ℕ) (f : Field) (fs : List Field) → Fields bs (f ∷ fs) → (t : List ℕ) × (rest : List ℕ) × (field bs ≡ Some (t, rest)) × Text t f × Fields rest fs
first_field bs f fs (t, rest, is, text, more) =
    (t, rest, ap field is ∙ field_text t rest (text_lead t rest f text (fields_stop rest fs more)), text, more)

number_plain : (t : List ℕ) (n : ℕ) → Number t n → starts_with_minus t ≡ false
number_plain t n h = let r = digit_range (get_or t 0 0) (number_digit t n h) in ne_eqb (get_or t 0 0) 45 (λ e. omega arith)

text_value : (t : List ℕ) (v : Seats) → Text t (seats v.value) → value_in t ≡ Some v
text_value t v (n, inl h) =
    cond-false _ _ _ (number_plain t n h.0) ∙ ap (λ o. after o (λ k. seats_of (pos k))) (text_number t n h.0) ∙ sym (in_range (pos n) v h.1)
text_value t v (n, inr h) =
    ap value_in h.0.sign ∙ ap (λ o. after o (λ k. seats_of (neg_ℤ (pos k)))) (text_number h.0.digits n h.0.number) ∙ sym (in_range (neg_ℤ (pos n)) v h.1)

-- readers

-- a reader of fields, by how a value that it reads is told in fields
record Reads {A : Type 0} (read : List ℕ → Option (A × List ℕ)) (told : A → List Field) : Type 0 where
  spelled : (bs : List ℕ) (r : A × List ℕ) → read bs ≡ Some r → (fs : List Field) → Fields r.1 fs → Fields bs (told r.0 ++ fs)
  found : (bs : List ℕ) (a : A) (fs : List Field) → Fields bs (told a ++ fs) → (rest : List ℕ) × (read bs ≡ Some (a, rest)) × Fields rest fs

-- one field, by what its text is read as
of_text : {A : Type 0} (parse : List ℕ → Option A) (told : A → Field)
    → ((t : List ℕ) (a : A) → parse t ≡ Some a → Text t (told a)) → ((t : List ℕ) (a : A) → Text t (told a) → parse t ≡ Some a)
    → Reads (λ bs. after (field bs) (λ f. after (parse f.0) (λ a. Some (a, f.1)))) (λ a. told a ∷ [])
of_text {A} parse told to from = record {
  spelled = λ bs r e fs more.
      let p = after_is (field bs) (λ f. after (parse f.0) (λ a. Some (a, f.1))) e in
      let f = p.0 in
      let q = after_is (parse f.0) (λ a. Some (a, f.1)) p.2 in
      let same = some_is q.2 in
      (f.0, f.1, field_bytes bs f p.1, subst (λ a. Text f.0 (told a)) (ap (λ (x : A × List ℕ). x.0) same) (to f.0 q.0 q.1), subst (λ (l : List ℕ). Fields l fs) (sym (ap (λ (x : A × List ℕ). x.1) same)) more);
  found = λ bs a fs h.
      let p = first_field bs (told a) fs h in
      (p.1, ap (λ o. after o (λ f. after (parse f.0) (λ k. Some (k, f.1)))) p.2 ∙ ap (λ o. after o (λ k. Some (k, p.1))) (from p.0 a p.3), p.4);
}

number : Reads read_number (λ n. plain n ∷ [])
number = of_text number_in plain number_text text_number

value : Reads read_value (λ v. seats v.value ∷ [])
value = of_text value_in (λ v. seats v.value) value_text text_value

pair : {A B : Type 0} {first : List ℕ → Option (A × List ℕ)} {second : List ℕ → Option (B × List ℕ)} {t : A → List Field} {u : B → List Field}
    → Reads first t → Reads second u → Reads (both first second) (λ n. t n.0 ++ u n.1)
pair {A} {B} {first} {second} {t} {u} f s = record {
  spelled = λ bs r e fs more.
      let a = after_is (first bs) _ e in
      let b = after_is (second a.0.1) _ a.2 in
      let same = some_is b.2 in
      let rest : Fields b.0.1 fs = subst (λ (l : List ℕ). Fields l fs) (sym (ap (λ (x : (A × B) × List ℕ). x.1) same)) more in
      subst (λ (n : A × B). Fields bs ((t n.0 ++ u n.1) ++ fs)) (ap (λ (x : (A × B) × List ℕ). x.0) same)
      (subst (Fields bs) (sym (append_assoc (t a.0.0) (u b.0.0) fs)) (f.spelled bs a.0 a.1 (u b.0.0 ++ fs) (s.spelled a.0.1 b.0 b.1 fs rest)));
  found = λ bs n fs h.
      let p = f.found bs n.0 (u n.1 ++ fs) (subst (Fields bs) (append_assoc (t n.0) (u n.1) fs) h) in
      let q = s.found p.0 n.1 fs p.2 in
      (q.0, ap (λ o. after o (λ a. after (second a.1) (λ b. Some ((a.0, b.0), b.1)))) p.1 ∙ ap (λ o. after o (λ b. Some ((n.0, b.0), b.1))) q.1, q.2);
}

ticket : Reads read_ticket (λ t. (plain t.0 ∷ []) ++ (plain t.1 ∷ []))
ticket = pair number number

-- a call that is made of what a reader reads, and is told in the same fields
module _ {A : Type 0} {read : List ℕ → Option (A × List ℕ)} {told : A → List Field} (reads : Reads read told) (make : A → Call Seats) (same : (a : A) → told a ++ [] ≡ fields (make a)) where
  made_spelled : (l : ℕ) (bs : List ℕ) (c : Call Seats) → ((a : A) → l ≡ letter (make a)) → after (made make read bs) ended ≡ Some c → Spells (l ∷ bs) c
  made_spelled l bs c is e =
      let p = after_is (made make read bs) ended e in
      let q = after_is (read bs) (λ a. Some (make a.0, a.1)) p.1 in
      let z = cond_is (eqb (length p.0.1) 0) p.2 in
      let parts = some_is q.2 in
      let made_is : make q.0.0 ≡ c = ap (λ (x : Call Seats × List ℕ). x.0) parts ∙ z.1 in
      let none : q.0.1 ≡ [] = ap (λ (x : Call Seats × List ℕ). x.1) parts ∙ nil_from_length p.0.1 (eqb-true (length p.0.1) 0 z.0) in
      subst (Spells (l ∷ bs)) made_is (bs, ap (λ k. k ∷ bs) (is q.0.0), subst (Fields bs) (same q.0.0) (reads.spelled bs q.0 q.1 [] none))

  made_read : (bs : List ℕ) (a : A) → Fields bs (fields (make a)) → after (made make read bs) ended ≡ Some (make a)
  made_read bs a h =
      let p = reads.found bs a [] (subst (Fields bs) (sym (same a)) h) in
      ap (λ o. after (after o (λ a. Some (make a.0, a.1))) ended) p.1 ∙ ap (λ (l : List ℕ). ended (make a, l)) p.2

-- one direction and the other, by the letter

by_letter : (l : ℕ) (bs : List ℕ) (c : Call Seats) → after (read_call l bs) ended ≡ Some c → Spells (l ∷ bs) c
by_letter l bs c =
    arm 98 _ _ (λ b. made_spelled (pair number (pair number number)) (λ n. Begin n.0 n.1.0 n.1.1) (λ _. refl) l bs c (λ _. b))
    (arm 114 _ _ (λ b. made_spelled (pair ticket number) (λ n. Read n.0 n.1) (λ _. refl) l bs c (λ _. b))
    (arm 117 _ _ (λ b. made_spelled (pair ticket (pair number value)) (λ n. Update n.0 n.1.0 n.1.1) (λ _. refl) l bs c (λ _. b))
    (arm 99 _ _ (λ b. made_spelled ticket Commit (λ _. refl) l bs c (λ _. b))
    (arm 97 _ _ (λ b. made_spelled ticket Abort (λ _. refl) l bs c (λ _. b))
    (arm 103 _ _ (λ b. made_spelled (pair number number) (λ n. Glance n.0 n.1) (λ _. refl) l bs c (λ _. b))
    (arm 116 _ _ (λ b. made_spelled (pair number number) (λ n. Tick n.0 n.1) (λ _. refl) l bs c (λ _. b))
    (arm 115 _ _ (λ b. made_spelled number Settle (λ _. refl) l bs c (λ _. b))
    (arm 113 _ _ (λ b. made_spelled number Standing (λ _. refl) l bs c (λ _. b))
    (never c)))))))))
  where
    arm : (k : ℕ) (x y : Option (Call Seats × List ℕ)) → (l ≡ k → after x ended ≡ Some c → Spells (l ∷ bs) c) → (after y ended ≡ Some c → Spells (l ∷ bs) c) → after (cond (eqb l k) x y) ended ≡ Some c → Spells (l ∷ bs) c
    arm k x y this other =
        cond_both (eqb l k) x y (λ o. after o ended ≡ Some c → Spells (l ∷ bs) c) (λ h. this (eqb-true l k h)) (λ _. other)

pub line_read : (line : List ℕ) (c : Call Seats) → call_of line ≡ Some c → Spells line c
line_read [] c e = never c e
line_read (l ∷ bs) c e = by_letter l bs c e

fields_read : (bs : List ℕ) (c : Call Seats) → Fields bs (fields c) → call_of (letter c ∷ bs) ≡ Some c
fields_read bs (Begin r site lifetime) h = made_read (pair number (pair number number)) (λ n. Begin n.0 n.1.0 n.1.1) (λ _. refl) bs (r, (site, lifetime)) h
fields_read bs (Read t o) h = made_read (pair ticket number) (λ n. Read n.0 n.1) (λ _. refl) bs (t, o) h
fields_read bs (Update t o v) h = made_read (pair ticket (pair number value)) (λ n. Update n.0 n.1.0 n.1.1) (λ _. refl) bs (t, (o, v)) h
fields_read bs (Commit t) h = made_read ticket Commit (λ _. refl) bs t h
fields_read bs (Abort t) h = made_read ticket Abort (λ _. refl) bs t h
fields_read bs (Glance site o) h = made_read (pair number number) (λ n. Glance n.0 n.1) (λ _. refl) bs (site, o) h
fields_read bs (Tick site clock) h = made_read (pair number number) (λ n. Tick n.0 n.1) (λ _. refl) bs (site, clock) h
fields_read bs (Settle o) h = made_read number Settle (λ _. refl) bs o h
fields_read bs (Standing r) h = made_read number Standing (λ _. refl) bs r h

pub line_spelled : (line : List ℕ) (c : Call Seats) → Spells line c → call_of line ≡ Some c
line_spelled line c (bs, is, h) = ap call_of is ∙ fields_read bs c h
