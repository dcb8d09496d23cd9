-- The nine calls, each as one outcome of what stood before.
use Rattle.std.specs.Prelude.{◌≡◌, ℕ, zero, suc, pred, ◌+◌, Bool, false, cond, not, ◌&&◌, ◌||◌, List, [], ◌∷◌, ◌++◌, length, Some, None, Option, ◌==◌, slice_set}
use Rattle.history.specs.declared.item.Item.{Item}
use Rattle.history.specs.declared.item.Cause.{Cause}
use Rattle.history.specs.Chain.{find_in, seal_in, seal_item, drop_in, extend_in, put_in, fresh_item, is_version}
use Rattle.history.specs.Meaning.{chain_of, cause_of, fault_of, Op}
use Rattle.history.specs.Meaning.Op.{Find, At, Extend, Put, Seal, Drop}
use Rattle.ledger.specs.declared.record.Standing.{Standing}
use Rattle.ledger.specs.declared.record.Standing.TheVariants.{Open, Committed, Aborted}
use Rattle.ledger.specs.declared.record.Event.{Event}
use Rattle.ledger.specs.declared.record.Event.TheVariants.{Commit as CommitEvent, Abort as AbortEvent}
use Rattle.ledger.specs.declared.record.CommitRecord.{CommitRecord}
use Rattle.ledger.specs.declared.call.Call.{Call}
use Rattle.ledger.specs.declared.call.Call.TheVariants.{Begin, Read, Update, Commit, Abort, Glance, Tick, Settle, Standing as StandingCall}
use Rattle.ledger.specs.declared.refusal.Refusal.{Refusal}
use Rattle.ledger.specs.declared.refusal.Refusal.TheVariants.{NotFit, NoForm}
use Rattle.ledger.specs.declared.call.Answer.{Answer}
use Rattle.ledger.specs.declared.call.Answer.TheVariants.{Began, Value, Wait, Done, Settled, Stands, Refused}
use Rattle.ledger.specs.Time.{stamp, site_of, creation_of}
use Rattle.ledger.specs.Records.{clock_at, record_at, fate, item_fate, lower_for, concluded, one_token_more, change_record, opened, take_stamp}
use Rattle.ledger.specs.Refusals.{refusal_of, aborts, first, when}
use Rattle.ledger.specs.Checks.{Ticket, record_check, ticket_check, action_check, glance_check, begin_check, tick_check, time_of, glance_time}
use Rattle.ledger.specs.Ledger.{state_of}
use Rattle.register.specs.State.{State, Contents, contents, image_after}
use Rattle.register.specs.Settling.{settled_records}

pub record Outcome (V : Type 0) : Type 0 where
  pub answer : Answer V
  pub after : Contents

abbrev pub refused : {V : Type 0} → State → Refusal → Outcome V
refused s why = record { answer = Refused why; after = contents s }

-- an outcome met: from a state to the next, with its answer
pub record Ends {V : Type 0} (out : Outcome V) (s : State) (a : Answer V) (t : State) : Type 0 where
  pub answers : a ≡ out.answer
  pub leaves : contents t ≡ out.after
  pub keeps_fit : t.fit ≡ s.fit
  pub keeps_writes : t.store.writes ≡ s.store.writes

-- what a call does unless a check turns it down
abbrev pub guarded : {V : Type 0} → State → Option Refusal → Outcome V → Outcome V
guarded s None done = done
guarded s (Some why) done = refused s why

abbrev pub fit_check : State → Option Refusal
fit_check s = when (not s.fit) NotFit

-- begin

abbrev pub begin : {V : Type 0} → State → ℕ → ℕ → ℕ → Outcome V
begin s r site lifetime =
    guarded s (first (fit_check s) (begin_check s.records s.clocks r site lifetime)) (record {
      answer = Began (r, stamp (clock_at s.clocks site) site);
      after = record {
        chains = s.store.chains;
        image = s.store.image;
        records = slice_set s.records (pred r) (opened (clock_at s.clocks site) site lifetime);
        clocks = take_stamp s.clocks site;
      };
    })

-- read and glance: what a search from a pseudo-time down meets, and the tokens settled on the way

pub data Met : Type 0 where
  waits : ℕ → Met
  reads : Item → Met
  nothing : Met

-- `ops` is what the search does to its object on the way, in order
pub record Meeting : Type 0 where
  pub met : Met
  pub chain : List Item
  pub records : List (Option CommitRecord)
  pub ops : List Op

-- a search that has dropped a token first
abbrev pub having_dropped : Item → Meeting → Meeting
having_dropped x w = record { met = w.met; chain = w.chain; records = w.records; ops = Drop x.start ∷ w.ops }

abbrev pub is_own : Option Ticket → Item → Bool
is_own None x = false
is_own (Some t) x = x.mark == t.0 && creation_of x.start == t.1

abbrev pub meet_fate : (List (Option CommitRecord) → List Item → Meeting) → List (Option CommitRecord) → List Item → Item → Standing → Meeting
meet_fate again records xs x Open = record { met = waits x.mark; chain = xs; records = records; ops = [] }
meet_fate again records xs x Committed = record { met = reads x; chain = seal_in xs x.start; records = lower_for records x; ops = Seal x.start ∷ [] }
meet_fate again records xs x Aborted = having_dropped x (again (lower_for records x) (drop_in xs x.start))

abbrev pub meet_item : (List (Option CommitRecord) → List Item → Meeting) → List (Option CommitRecord) → List ℕ → Option Ticket → List Item → Option Item → Meeting
meet_item again records clocks own xs None = record { met = nothing; chain = xs; records = records; ops = [] }
meet_item again records clocks own xs (Some x) =
    cond (is_version x || is_own own x)
    (record { met = reads x; chain = xs; records = records; ops = [] })
    (meet_fate again records xs x (fate records clocks x))

abbrev pub meet : ℕ → List (Option CommitRecord) → List ℕ → Option Ticket → List Item → ℕ → Meeting
meet zero records clocks own xs p = record { met = nothing; chain = xs; records = records; ops = [] }
meet (suc n) records clocks own xs p =
    meet_item (λ later ys. meet n later clocks own ys p) records clocks own xs (find_in xs p)

-- an item that is read as it stands
abbrev pub plainly : State → ℕ → Item → Meeting
plainly s o x = record { met = reads x; chain = chain_of s.store o; records = s.records; ops = [] }

-- what a search from p down meets in an object
abbrev pub meeting : State → Option Ticket → ℕ → ℕ → Meeting
meeting s own o p = meet (length (chain_of s.store o)) s.records s.clocks own (chain_of s.store o) p

module _ {V : Type 0} (parse : ℕ → Option V) where
  abbrev pub answer_read : State → ℕ → ℕ → ℕ → Meeting → Item → Option V → Outcome V
  answer_read s o p site m x None =
      record { answer = Refused (NoForm x.number); after = record { chains = slice_set s.store.chains o m.chain; image = image_after s.store o m.ops; records = m.records; clocks = s.clocks } }
  answer_read s o p site m x (Some v) =
      record {
        answer = Value v;
        after = record {
          chains = slice_set s.store.chains o (extend_in m.chain x.start p);
          image = image_after s.store o (m.ops ++ (Extend x.start p ∷ []));
          records = m.records;
          clocks = take_stamp s.clocks site;
        };
      }

  abbrev pub answer_met : State → ℕ → ℕ → ℕ → Meeting → Met → Outcome V
  answer_met s o p site m nothing = refused s NotFit
  answer_met s o p site m (waits r) =
      record { answer = Wait r; after = record { chains = slice_set s.store.chains o m.chain; image = image_after s.store o m.ops; records = m.records; clocks = s.clocks } }
  answer_met s o p site m (reads x) = answer_read s o p site m x (parse x.number)

  abbrev pub look_by : State → Option Ticket → ℕ → ℕ → ℕ → Option Cause → Outcome V
  look_by s own o p site (Some c) = refused s (refusal_of (fault_of s.store o (Find p) c))
  look_by s own o p site None = answer_met s o p site (meeting s own o p) (meeting s own o p).met

  -- an item read as it stands, and extended to p
  abbrev pub read_item : State → ℕ → ℕ → ℕ → Item → Outcome V
  read_item s o p site x = answer_read s o p site (plainly s o x) x (parse x.number)

  abbrev pub look : State → Option Ticket → ℕ → ℕ → ℕ → Outcome V
  look s own o p site = look_by s own o p site (cause_of s.store o (Find p))

  abbrev pub read : State → Ticket → ℕ → Outcome V
  read s t o =
      guarded s (first (fit_check s) (action_check s.records s.clocks t)) (look s (Some t) o (time_of s.clocks t.1) (site_of t.1))

  abbrev pub glance : State → ℕ → ℕ → Outcome V
  glance s site o =
      guarded s (first (fit_check s) (glance_check s.clocks site)) (look s None o (glance_time s.clocks site) site)

-- update

module _ {V : Type 0} (form : V → ℕ) where
  abbrev pub update_by : State → Ticket → ℕ → V → ℕ → Op → Option Cause → Outcome V
  update_by s t o v p op (Some c) =
      record {
        answer = Refused (refusal_of (fault_of s.store o op c));
        after = record {
          chains = s.store.chains;
          image = s.store.image;
          records = cond (aborts (refusal_of (fault_of s.store o op c))) (change_record (concluded AbortEvent) s.records t.0) s.records;
          clocks = s.clocks;
        };
      }
  update_by s t o v p op None =
      record {
        answer = Done;
        after = record {
          chains = slice_set s.store.chains o (put_in (chain_of s.store o) (fresh_item p t.0 (form v)));
          image = image_after s.store o (op ∷ []);
          records = change_record one_token_more s.records t.0;
          clocks = take_stamp s.clocks (site_of t.1);
        };
      }

  abbrev pub update_at : State → Ticket → ℕ → V → ℕ → Op → Outcome V
  update_at s t o v p op = update_by s t o v p op (cause_of s.store o op)

  abbrev pub update : State → Ticket → ℕ → V → Outcome V
  update s t o v =
      guarded s (first (fit_check s) (action_check s.records s.clocks t))
      (update_at s t o v (time_of s.clocks t.1) (Put (time_of s.clocks t.1) t.0 (form v)))

-- commit and abort

abbrev pub conclude : {V : Type 0} → Event → State → Ticket → Outcome V
conclude e s t =
    guarded s (first (fit_check s) (ticket_check s.records s.clocks t)) (record {
      answer = Done;
      after = record {
        chains = s.store.chains;
        image = s.store.image;
        records = change_record (concluded e) s.records t.0;
        clocks = s.clocks;
      };
    })

-- tick

abbrev pub tick : {V : Type 0} → State → ℕ → ℕ → Outcome V
tick s site clock =
    guarded s (first (fit_check s) (tick_check s.clocks site clock))
    (record {
      answer = Done;
      after = record {
        chains = s.store.chains;
        image = s.store.image;
        records = s.records;
        clocks = slice_set s.clocks site clock;
      };
    })

-- settle: every token of the object that is not open

pub record Settling : Type 0 where
  pub chain : List Item
  pub records : List (Option CommitRecord)
  pub sealed : ℕ
  pub dropped : ℕ
  pub ops : List Op

-- an item passed, by its fate, before the settling of those that follow
abbrev pub settle_step : Item → Standing → Settling → Settling
settle_step x Open w = record { chain = x ∷ w.chain; records = w.records; sealed = w.sealed; dropped = w.dropped; ops = w.ops }
settle_step x Committed w = record { chain = seal_item x ∷ w.chain; records = w.records; sealed = w.sealed + 1; dropped = w.dropped; ops = Seal x.start ∷ w.ops }
settle_step x Aborted w = record { chain = w.chain; records = w.records; sealed = w.sealed; dropped = w.dropped + 1; ops = Drop x.start ∷ w.ops }

abbrev pub settle_chain : List ℕ → List (Option CommitRecord) → List Item → Settling
settle_chain clocks records [] = record { chain = []; records = records; sealed = 0; dropped = 0; ops = [] }
settle_chain clocks records (x ∷ xs) =
    settle_step x (item_fate records clocks x) (settle_chain clocks (settled_records (item_fate records clocks x) records x) xs)

abbrev pub settled : {V : Type 0} → State → ℕ → Settling → Outcome V
settled s o w =
    record {
      answer = Settled (w.sealed, w.dropped);
      after = record {
        chains = slice_set s.store.chains o w.chain;
        image = image_after s.store o w.ops;
        records = w.records;
        clocks = s.clocks;
      };
    }

abbrev pub settle_by : {V : Type 0} → State → ℕ → Option Cause → Outcome V
settle_by s o (Some c) = refused s (refusal_of (fault_of s.store o At c))
settle_by s o None = settled s o (settle_chain s.clocks s.records (chain_of s.store o))

abbrev pub settle : {V : Type 0} → State → ℕ → Outcome V
settle s o = guarded s (fit_check s) (settle_by s o (cause_of s.store o At))

-- standing

abbrev pub standing : {V : Type 0} → State → ℕ → Outcome V
standing s r =
    guarded s (first (fit_check s) (record_check r)) (record {
      answer = Stands (state_of s.clocks (record_at s.records r)).0 (state_of s.clocks (record_at s.records r)).1;
      after = contents s;
    })

module _ {V : Type 0} (form : V → ℕ) (parse : ℕ → Option V) where
  abbrev pub outcome : State → Call V → Outcome V
  outcome s (Begin r site lifetime) = begin s r site lifetime
  outcome s (Read t o) = read parse s t o
  outcome s (Update t o v) = update form s t o v
  outcome s (Commit t) = conclude CommitEvent s t
  outcome s (Abort t) = conclude AbortEvent s t
  outcome s (Glance site o) = glance parse s site o
  outcome s (Tick site clock) = tick s site clock
  outcome s (Settle o) = settle s o
  outcome s (StandingCall r) = standing s r

  -- one call, from a state to the next, with its answer; a store's rooms and levels are left open
  abbrev pub Step : State → Call V → Answer V → State → Type 0
  Step s c a t = Ends (outcome s c) s a t
