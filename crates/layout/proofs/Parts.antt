-- The parts of lawful bytes.
use Rattle.std.proofs.Common.{◌≡◌, ℕ, ◌+◌, ◌*◌, ◌≤◌, true, eqb, List, length}
use Rattle.std.proofs.lemmas.Bool.{eqb-true, leb-true, and_parts, and_from}
use Rattle.std.specs.List.{list_all}
use Rattle.layout.specs.Field.{num}
use Rattle.layout.specs.Layout.{objects_in, records_in, free_in, pad_at, path, whole, items, uses, each_below, blank, history, sized, header, threaded, lawful}

pub record Sized (n m size : ℕ) : Type 0 where
  pub some : 1 ≤ n
  pub few : n ≤ 128
  pub fit : n ≤ m
  pub most : m ≤ 2047
  pub long : size ≡ 32 * (m + 1)

pub sized_parts : (n m size : ℕ) → sized n m size ≡ true → Sized n m size
sized_parts n m size h =
    let d = and_parts _ _ h in
    let c = and_parts _ _ d.0 in
    let b = and_parts _ _ c.0 in
    let a = and_parts _ _ b.0 in
    record { some = leb-true _ _ a.0; few = leb-true _ _ a.1; fit = leb-true _ _ b.1; most = leb-true _ _ c.1; long = eqb-true _ _ d.1 }

pub record Header (bs : List ℕ) : Type 0 where
  pub magic : num bs 0 4 ≡ 0x50544831
  pub size : Sized (objects_in bs) (records_in bs) (length bs)
  pub blank : num bs 10 22 ≡ 0

pub header_parts : (bs : List ℕ) → header bs ≡ true → Header bs
header_parts bs h =
    let b = and_parts _ _ h in
    let a = and_parts _ _ b.0 in
    record { magic = eqb-true _ _ a.0; size = sized_parts _ _ _ a.1; blank = eqb-true _ _ b.1 }

pub record Threads (bs : List ℕ) : Type 0 where
  pub chains : each_below (objects_in bs) (λ o. whole bs (o + 1)) ≡ true
  pub spare : whole bs (free_in bs) ≡ true
  pub once : each_below (records_in bs) (λ k. eqb (uses bs (k + 1)) 1) ≡ true

pub threads : (bs : List ℕ) → threaded bs ≡ true → Threads bs
threads bs h =
    let b = and_parts _ _ h in
    let a = and_parts _ _ b.0 in
    record { chains = a.0; spare = a.1; once = b.1 }

pub from_threads : (bs : List ℕ) → Threads bs → threaded bs ≡ true
from_threads bs t = and_from _ _ (and_from _ _ t.chains t.spare) t.once

pub record Parts (bs : List ℕ) : Type 0 where
  pub header : header bs ≡ true
  pub pads : each_below (records_in bs) (λ k. eqb (pad_at bs (k + 1)) 0) ≡ true
  pub threads : Threads bs
  pub blanks : list_all (blank bs) (path bs (free_in bs)) ≡ true
  pub rules : each_below (objects_in bs) (λ o. history (items bs (o + 1))) ≡ true

pub parts : (bs : List ℕ) → lawful bs ≡ true → Parts bs
unfolding lawful
parts bs h =
    let d = and_parts _ _ h in
    let c = and_parts _ _ d.0 in
    let b = and_parts _ _ c.0 in
    let a = and_parts _ _ b.0 in
    record { header = a.0; pads = a.1; threads = threads bs b.1; blanks = c.1; rules = d.1 }

pub from_parts : (bs : List ℕ) → Parts bs → lawful bs ≡ true
unfolding lawful
from_parts bs p = and_from _ _ (and_from _ _ (and_from _ _ (and_from _ _ p.header p.pads) (from_threads bs p.threads)) p.blanks) p.rules
