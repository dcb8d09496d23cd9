-- Where operations change a chain of records, and what becomes of its items.
use Rattle.std.proofs.Common.{◌≡◌, ℕ, ◌+◌, ◌<◌, ◌≤◌, cond, not, List, [], ◌∷◌, ◌++◌, map, sym, refl, ap, ◌∙◌, subst, arith}
use Rattle.std.proofs.lemmas.List.{map-append}
use Rattle.std.proofs.lemmas.Bool.{leb-true, leb-false, le-ltb, lt-ltb, le-leb, lt-leb, eq-eqb, ne_eqb, cond-true, cond-false, cond_both, not_from_true, not_from_false}
use Rattle.history.specs.declared.item.Item.{Item}
use Rattle.history.specs.Chain.{starts_by, has_start, put_in, drop_in}
use Rattle.history.specs.Members.{◌∈◌, here, there}
use Rattle.history.proofs.Lists.{in_right}
use Rattle.history.proofs.Chains.{Sorted, keep_all}
use Rattle.layout.specs.Layout.{item_at}
use Rattle.chained.specs.Edits.{last_by}

-- record a of a chain, after which a new item goes
pub record Slot (bs : List ℕ) (new : Item) (a : ℕ) (ns : List ℕ) : Type 0 where
  pub pre : List ℕ
  pub post : List ℕ
  pub chain : ns ≡ pre ++ (a ∷ post)
  pub items : put_in (map (item_at bs) ns) new ≡ map (item_at bs) pre ++ (item_at bs a ∷ (new ∷ map (item_at bs) post))

put_past : (x new : Item) (xs : List Item) → x.start ≤ new.start → put_in (x ∷ xs) new ≡ x ∷ put_in xs new
put_past x new xs l = cond-false _ _ _ (le-ltb _ _ l)

pub slot : (bs : List ℕ) (new : Item) (k : ℕ) (ks : List ℕ) → (item_at bs k).start ≤ new.start → Slot bs new (last_by bs new.start k ks) (k ∷ ks)
slot bs new k [] l = record { pre = []; post = []; chain = refl; items = put_past (item_at bs k) new [] l }
slot bs new k (n ∷ ns) l =
    cond_both (starts_by new.start (item_at bs n)) _ _ (λ a. Slot bs new a (k ∷ (n ∷ ns)))
    (λ t.
    let r = slot bs new n ns (leb-true _ _ t) in
    record { pre = k ∷ r.pre; post = r.post; chain = ap (λ zs. k ∷ zs) r.chain; items = put_past (item_at bs k) new _ l ∙ ap (λ zs. item_at bs k ∷ zs) r.items })
    (λ t. record { pre = []; post = n ∷ ns; chain = refl; items = put_past (item_at bs k) new _ l ∙ ap (λ zs. item_at bs k ∷ zs) (cond-true _ _ _ (lt-ltb _ _ (leb-false _ _ t))) })

-- the item that starts at s is changed in place, and no other is
abbrev pub changes : ℕ → (Item → Item) → Item → Item
changes s f y = cond (has_start s y) (f y) y

unlike : (s : ℕ) (f : Item → Item) (y : Item) → (y.start ≡ s → ⊥) → changes s f y ≡ y
unlike s f y n = cond-false _ _ _ (ne_eqb y.start s n)

map_later : (s : ℕ) (f : Item → Item) (xs : List Item) → ((y : Item) → y ∈ xs → s < y.start) → map (changes s f) xs ≡ xs
map_later s f [] h = refl
map_later s f (x ∷ xs) h = ap (λ y. y ∷ map (changes s f) xs) (unlike s f x (λ e. let q = h x here in omega arith)) ∙ ap (λ ys. x ∷ ys) (map_later s f xs (λ y i. h y (there i)))

pub map_changes : (s : ℕ) (f : Item → Item) (ps : List Item) (x : Item) (qs : List Item) → Sorted (ps ++ (x ∷ qs)) → x.start ≡ s → map (changes s f) (ps ++ (x ∷ qs)) ≡ ps ++ (f x ∷ qs)
map_changes s f [] x qs h e = ap (λ y. y ∷ map (changes s f) qs) (cond-true _ _ _ (eq-eqb _ _ e)) ∙ ap (λ ys. f x ∷ ys) (map_later s f qs (λ y i. let q = h.0 y i in omega arith))
map_changes s f (p ∷ ps) x qs h e =
    ap (λ y. y ∷ map (changes s f) (ps ++ (x ∷ qs))) (unlike s f p (λ z. let q = h.0 x (in_right ps here) in omega arith)) ∙ ap (λ ys. p ∷ ys) (map_changes s f ps x qs h.1 e)

-- the item that starts at s is dropped, and no other is
stays : (s : ℕ) (x : Item) (xs : List Item) → (x.start ≡ s → ⊥) → drop_in (x ∷ xs) s ≡ x ∷ drop_in xs s
stays s x xs n = cond-true (not (has_start s x)) _ _ (not_from_false _ (ne_eqb _ _ n))

drop_mid : (s : ℕ) (ps : List Item) (y x : Item) (qs : List Item) → Sorted (ps ++ (y ∷ (x ∷ qs))) → x.start ≡ s → drop_in (ps ++ (y ∷ (x ∷ qs))) s ≡ ps ++ (y ∷ qs)
drop_mid s [] y x qs h e =
    stays s y (x ∷ qs) (λ z. let q = h.0 x here in omega arith)
    ∙ ap (λ zs. y ∷ zs)
    (cond-false (not (has_start s x)) (x ∷ drop_in qs s) _ (not_from_true _ (eq-eqb _ _ e))
    ∙ keep_all (λ i. not (has_start s i)) qs (λ i m. not_from_false _ (ne_eqb i.start s (λ z. let q = h.1.0 i m in omega arith)))
    )
drop_mid s (p ∷ ps) y x qs h e =
    stays s p (ps ++ (y ∷ (x ∷ qs))) (λ z. let q = h.0 x (in_right ps (there here)) in omega arith) ∙ ap (λ zs. p ∷ zs) (drop_mid s ps y x qs h.1 e)

-- record x of a chain, which starts at s, follows record a
pub record Cut (bs : List ℕ) (s a x : ℕ) (ns : List ℕ) : Type 0 where
  pub pre : List ℕ
  pub post : List ℕ
  pub chain : ns ≡ pre ++ (a ∷ (x ∷ post))

pub cut_items : (bs : List ℕ) (s a x : ℕ) (ns : List ℕ) (c : Cut bs s a x ns) → Sorted (map (item_at bs) ns) → (item_at bs x).start ≡ s → drop_in (map (item_at bs) ns) s ≡ map (item_at bs) c.pre ++ (item_at bs a ∷ map (item_at bs) c.post)
cut_items bs s a x ns c h e =
    let q = ap (map (item_at bs)) c.chain ∙ map-append (item_at bs) c.pre (a ∷ (x ∷ c.post)) in
    ap (λ is. drop_in is s) q ∙ drop_mid s (map (item_at bs) c.pre) (item_at bs a) (item_at bs x) (map (item_at bs) c.post) (subst Sorted q h) e

-- a record that starts at s is the last by s
stops : (bs : List ℕ) (s k : ℕ) (ks : List ℕ) → Sorted (map (item_at bs) (k ∷ ks)) → (item_at bs k).start ≡ s → last_by bs s k ks ≡ k
stops bs s k [] h e = refl
stops bs s k (n ∷ ns) h e = cond-false _ _ _ (lt-leb (item_at bs n).start s (let q = h.0 (item_at bs n) here in omega arith))

pub cut : (bs : List ℕ) (s p k : ℕ) (ks : List ℕ) → s ≡ p + 1 → Sorted (map (item_at bs) (k ∷ ks)) → (item_at bs k).start ≤ p → (item_at bs (last_by bs s k ks)).start ≡ s → Cut bs s (last_by bs p k ks) (last_by bs s k ks) (k ∷ ks)
cut bs s p k [] q h l e = absurd (omega arith)
cut bs s p k (n ∷ ns) q h l found =
    cond_both (starts_by p (item_at bs n)) _ _ (λ a. (item_at bs (last_by bs s k (n ∷ ns))).start ≡ s → Cut bs s a (last_by bs s k (n ∷ ns)) (k ∷ (n ∷ ns)))
    (λ t e.
    let m = leb-true (item_at bs n).start p t in
    let g : last_by bs s k (n ∷ ns) ≡ last_by bs s n ns = cond-true _ _ _ (le-leb (item_at bs n).start s (omega arith)) in
    more (last_by bs p n ns) (last_by bs s k (n ∷ ns)) (subst (λ x. Cut bs s (last_by bs p n ns) x (n ∷ ns)) (sym g) (cut bs s p n ns q h.1 m (ap (λ i. (item_at bs i).start) (sym g) ∙ e))))
    (λ t.
    let m = leb-false (item_at bs n).start p t in
    cond_both (starts_by s (item_at bs n)) _ _ (λ x. (item_at bs x).start ≡ s → Cut bs s k x (k ∷ (n ∷ ns)))
    (λ u e. record { pre = []; post = ns; chain = ap (λ x. k ∷ (x ∷ ns)) (sym (stops bs s n ns h.1 (let v = leb-true (item_at bs n).start s u in omega arith))) })
    (λ u e. absurd (omega arith)))
    found
  where
    more : (a x : ℕ) → Cut bs s a x (n ∷ ns) → Cut bs s a x (k ∷ (n ∷ ns))
    more a x c = record { pre = k ∷ c.pre; post = c.post; chain = ap (λ zs. k ∷ zs) c.chain }
