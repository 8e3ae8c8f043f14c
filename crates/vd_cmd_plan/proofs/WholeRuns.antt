-- A whole run from its two halves.
use Rattle.std.proofs.Common.{◌≡◌, ◌≤◌, inl, inr, ⊎_elim, ℕ, true, false, List, [], ◌∷◌, ◌++◌, length, take, Bool, Ok, Err, IsTrue, refl, sym, ◌∙◌, ap, subst, append_assoc, arith}
use Rattle.std.proofs.lemmas.List.{take_all, append-nil}
use Rattle.vd_outside.specs.Causes.{Rose}
use Rattle.vd_outside.specs.Files.{FilesView, Contents}
use Rattle.vd_outside.specs.Sink.{SinkView, WritesAll}
use Rattle.vd_outside.specs.declared.files.FilesCall.{FilesCall}
use Rattle.vd_outside.specs.declared.files.FilesCall.TheVariants.{Store}
use Rattle.vd_cmd_plan.specs.declared.status.Status.{Status}
use Rattle.vd_cmd_plan.specs.declared.status.Status.TheVariants.{Ended, Memory, Usage, ReadFault, WriteFault, NoAssignment, Host, ChildFault}
use Rattle.vd_cmd_plan.specs.declared.answer.Answer.{Answer}
use Rattle.vd_outside.specs.declared.stored.Stored.{Stored}
use Rattle.vd_cmd_plan.specs.Plans.{Plan, Executes, GrowsWithin, IsPlanned, fetch_calls, IsGiven}
use Rattle.vd_cmd_plan.proofs.Fronts.{more_within, later_within}
use Rattle.vd_cmd_plan.specs.Deliver.{Delivers, StoresAll, IsEnded, IsDone, IsLeft, IsPartlyStored, IsLastStore, store_calls, stored}
use Rattle.vd_cmd_plan.specs.Runs.{Runs, IsAnswered, calls}

rose_earlier : (before mid now : ℕ) → before ≤ mid → Rose mid now → Rose before now
rose_earlier before mid now h r = omega arith

no_form : (fits : Bool) → fits ≡ true → fits ≡ false → ⊥
no_form fits e n = cc (e, n)

given_done : (status : Status) (printed : List ℕ) → IsGiven status printed → IsDone status
given_done Ended printed given = tt
given_done (NoAssignment labelled) printed given = tt
given_done other printed given = absurd given

runs_quiet : (fits : Bool) (plan : Contents → Plan) (before now : FilesView) (out : SinkView) (status : Status) → Executes fits plan before now (Err status)
    → IsPlanned status → (status ≡ Usage → fits ≡ false) → (fits ≡ false → status ≡ Usage) → (status ≡ WriteFault → ⊥)
    → (IsTrue before.told → IsAnswered (plan before.contents).answer.status status) → (IsDone status → ⊥) → ((p : List ℕ) → IsLeft p out.taken out.taken status)
    → (IsTrue before.told → IsPartlyStored status (plan before.contents).answer.stores before.contents now.contents)
    → Runs fits plan before now out out status
runs_quiet fits plan before now out status w planned usage comes no_write answered no_end left none_stored = record {
  later = w.later;
  out_later = omega arith;
  planned = planned;
  usage = usage;
  usage_comes = comes;
  read_fault = λ name e. w.fault name (ap (λ (s : Status). Err s) e);
  read_last = λ t name e. w.last t name (ap (λ (s : Status). Err s) e);
  write_fault = λ e. absurd (no_write e);
  write_cause = λ t e. absurd (no_write e);
  answered = answered;
  still_told = w.still_told;
  front = λ t. more_within before.asked now.asked _ _ (w.front t);
  whole = λ t e. absurd (no_end e);
  stores = λ t e. absurd (no_end e);
  part = λ t. none_stored t;
  was_told = λ t. t;
  left = λ t o. left _;
  silent = λ o e f. refl;
  unwritten = λ e f. refl;
}

pub runs_err : (fits : Bool) (plan : Contents → Plan) (before now : FilesView) (out : SinkView) (status : Status) → Executes fits plan before now (Err status) → Runs fits plan before now out out status
runs_err fits plan before now out Ended w = absurd w.proper
runs_err fits plan before now out (NoAssignment labelled) w = absurd w.proper
runs_err fits plan before now out WriteFault w = absurd w.proper
runs_err fits plan before now out Memory w = runs_quiet fits plan before now out Memory w tt (λ e. absurd (cc e)) (λ e. absurd (no_form fits w.proper e)) (λ e. cc e) (λ t. tt) (λ e. e) (λ p. refl) (λ t. (0, w.contents t))
runs_err fits plan before now out Usage w = runs_quiet fits plan before now out Usage w tt (λ e. w.proper) (λ e. refl) (λ e. cc e) (λ t. ap (λ (a : Answer). a.status) (w.settled t)) (λ e. e) (λ p. refl) (λ t. (0, w.contents t))
runs_err fits plan before now out (ReadFault name) w = runs_quiet fits plan before now out (ReadFault name) w tt (λ e. absurd (cc e)) (λ e. absurd (no_form fits w.proper e)) (λ e. cc e) (λ t. tt) (λ e. e) (λ p. refl) (λ t. (0, w.contents t))
runs_err fits plan before now out (Host cause) w = runs_quiet fits plan before now out (Host cause) w w.proper.0 (λ e. absurd (cc e)) (λ e. absurd (no_form fits w.proper.1 e)) (λ e. cc e) (λ t. ap (λ (a : Answer). a.status) (w.settled t)) (λ e. e) (λ p. refl) (λ t. (0, w.contents t))
runs_err fits plan before now out (ChildFault hosts fault) w = absurd w.proper
runs_err fits plan before now out other w = runs_quiet fits plan before now out other w tt (λ e. absurd (cc e)) (λ e. absurd (no_form fits w.proper e)) (λ e. cc e) (λ t. ap (λ (a : Answer). a.status) (w.settled t)) (λ e. e) (λ p. refl) (λ t. (0, w.contents t))

last_since : (before xs mid now : List FilesCall) → mid ≡ before ++ xs → IsLastStore mid now → IsLastStore before now
last_since before xs mid now is p = (
  p.0,
  (
    xs ++ p.1.0,
    p.1.1 ∙ ap (λ (l : List FilesCall). l ++ (p.1.0 ++ Store p.0 ∷ [])) is ∙ append_assoc before xs (p.1.0 ++ Store p.0 ∷ [])
        ∙ ap (λ (l : List FilesCall). before ++ l) (sym (append_assoc xs p.1.0 (Store p.0 ∷ []))),
  ),
)

runs_given : (fits : Bool) (plan : Contents → Plan) (before mid now : FilesView) (out_before out_now : SinkView) (given : Answer) (status : Status) → Executes fits plan before mid (Ok given) → Delivers given mid now out_before out_now status
    → IsPlanned status → (status ≡ Usage → ⊥) → ((name : List ℕ) → status ≡ ReadFault name → ⊥)
    → (IsTrue before.told → IsAnswered (plan before.contents).answer.status status)
    → (IsTrue out_now.told → (IsEnded status → ⊥) → (status ≡ WriteFault → ⊥) → out_now.taken ≡ out_before.taken)
    → Runs fits plan before now out_before out_now status
runs_given fits plan before mid now out_before out_now given status w d planned no_usage no_read answered silent = record {
  later = let a = w.later in let b = d.later in omega arith;
  out_later = d.out_later;
  planned = planned;
  usage = λ e. absurd (no_usage e);
  usage_comes = λ e. absurd (no_form fits w.proper.1 e);
  read_fault = λ name e. absurd (no_read name e);
  read_last = λ t name e. absurd (no_read name e);
  write_fault = λ e. ⊎_elim (λ r. inl (rose_earlier _ _ _ w.later r)) (λ r. inr r) (d.fault e);
  write_cause = λ t e. ⊎_elim (λ r. inl (rose_earlier _ _ _ w.later r.0, last_since before.asked (fetch_calls (plan before.contents).fetches) mid.asked now.asked (w.whole t) r.1)) (λ r. inr r) (d.cause (w.still_told t) e);
  answered = answered;
  still_told = λ t. d.still_told (w.still_told t);
  front = λ t. subst (λ (a : Answer). GrowsWithin before.asked now.asked (fetch_calls (plan before.contents).fetches ++ store_calls a.stores)) (w.settled t)
      (later_within before.asked mid.asked now.asked (fetch_calls (plan before.contents).fetches) (store_calls given.stores) (w.whole t) (d.front (w.still_told t)));
  whole = λ t e. d.whole (w.still_told t) e ∙ all t;
  stores = λ t e. d.contents (w.still_told t) e ∙ ap (λ (a : Answer). stored a.stores mid.contents) (w.settled t) ∙ ap (λ (m : Contents). stored (plan before.contents).answer.stores m) (w.contents t);
  part = λ t. subst (λ (a : Answer). IsPartlyStored status a.stores before.contents now.contents) (w.settled t) (subst (λ (m : Contents). IsPartlyStored status given.stores m now.contents) (w.contents t) (d.part (w.still_told t)));
  was_told = d.was_told;
  left = λ t o. subst (λ (a : Answer). IsLeft a.printed out_before.taken out_now.taken status) (w.settled t) (d.left o);
  silent = silent;
  unwritten = d.unwritten;
}
  where
    all : IsTrue before.told → mid.asked ++ store_calls given.stores ≡ before.asked ++ calls (plan before.contents)
    all t = ap (λ (l : List FilesCall). l ++ store_calls given.stores) (w.whole t)
        ∙ append_assoc before.asked (fetch_calls (plan before.contents).fetches) (store_calls given.stores)
        ∙ ap (λ (a : Answer). before.asked ++ (fetch_calls (plan before.contents).fetches ++ store_calls a.stores)) (w.settled t)

pub runs_ok : (fits : Bool) (plan : Contents → Plan) (before mid now : FilesView) (out_before out_now : SinkView) (given : Answer) (status : Status) → Executes fits plan before mid (Ok given) → Delivers given mid now out_before out_now status → Runs fits plan before now out_before out_now status
runs_ok fits plan before mid now out_before out_now given Ended w d = runs_given fits plan before mid now out_before out_now given Ended w d tt (λ e. cc e) (λ name e. cc e) (λ t. d.ends ∙ ap (λ (a : Answer). a.status) (w.settled t)) (λ o e f. absurd (e tt))
runs_ok fits plan before mid now out_before out_now given (NoAssignment labelled) w d = runs_given fits plan before mid now out_before out_now given (NoAssignment labelled) w d tt (λ e. cc e) (λ name e. cc e) (λ t. d.ends ∙ ap (λ (a : Answer). a.status) (w.settled t)) (λ o e f. d.left o)
runs_ok fits plan before mid now out_before out_now given Memory w d = runs_given fits plan before mid now out_before out_now given Memory w d tt (λ e. cc e) (λ name e. cc e) (λ t. tt) (λ o e f. d.left o)
runs_ok fits plan before mid now out_before out_now given WriteFault w d = runs_given fits plan before mid now out_before out_now given WriteFault w d tt (λ e. cc e) (λ name e. cc e) (λ t. subst (λ (a : Answer). IsDone a.status) (w.settled t) (given_done given.status given.printed w.proper.0)) (λ o e f. absurd (f refl))
runs_ok fits plan before mid now out_before out_now given other w d = absurd (subst (λ (s : Status). IsGiven s given.printed) (sym d.ends) w.proper.0)

all_stored : (pieces : List Stored) (before now : Contents) → now ≡ stored pieces before → now ≡ stored (take (length pieces) pieces) before
all_stored pieces before now is = is ∙ ap (λ (l : List Stored). stored l before) (sym (take_all (length pieces) pieces (omega arith)))

deliver_ok : {E : Type 0} (given : Answer) (status : Status) (before now : FilesView) (out_before out_now : SinkView) → given.status ≡ status → IsGiven status given.printed → StoresAll given.stores before now (Ok tt) → WritesAll {E = E} given.printed out_before out_now (Ok tt) → Delivers given before now out_before out_now status
deliver_ok given Ended before now out_before out_now is fits p w = record {
  later = p.later;
  out_later = w.later;
  ends = sym is;
  fault = λ e. absurd (cc e);
  cause = λ t e. absurd (cc e);
  still_told = p.still_told;
  front = p.front;
  whole = λ t e. p.whole t;
  contents = λ t e. p.contents t;
  part = λ t. (length given.stores, all_stored given.stores before.contents now.contents (p.contents t));
  was_told = w.was_told;
  left = w.whole;
  unwritten = λ e f. absurd (cc e);
}
deliver_ok given (NoAssignment labelled) before now out_before out_now is fits p w = record {
  later = p.later;
  out_later = w.later;
  ends = sym is;
  fault = λ e. absurd (cc e);
  cause = λ t e. absurd (cc e);
  still_told = p.still_told;
  front = p.front;
  whole = λ t e. p.whole t;
  contents = λ t e. p.contents t;
  part = λ t. (length given.stores, all_stored given.stores before.contents now.contents (p.contents t));
  was_told = w.was_told;
  left = λ o. w.whole o ∙ ap (λ (l : List ℕ). out_before.taken ++ l) fits ∙ append-nil out_before.taken;
  unwritten = λ e f. absurd (cc e);
}
deliver_ok given other before now out_before out_now is fits p w = absurd fits

pub delivered : {E : Type 0} (given : Answer) (stores : List Stored) (printed : List ℕ) (before now : FilesView) (out_before out_now : SinkView) → IsGiven given.status given.printed → stores ≡ given.stores → printed ≡ given.printed → StoresAll stores before now (Ok tt) → WritesAll {E = E} printed out_before out_now (Ok tt) → Delivers given before now out_before out_now given.status
delivered {E = E} given stores printed before now out_before out_now fits same_stores same_printed p w = deliver_ok {E = E} given given.status before now out_before out_now refl fits
    (subst (λ (l : List Stored). StoresAll l before now (Ok tt)) same_stores p)
    (subst (λ (l : List ℕ). WritesAll {E = E} l out_before out_now (Ok tt)) same_printed w)

deliver_cut : {E : Type 0} (given : Answer) (before now : FilesView) (out_before out_now : SinkView) (e : E) → StoresAll given.stores before now (Ok tt) → WritesAll {E = E} given.printed out_before out_now (Err e) → Delivers given before now out_before out_now WriteFault
deliver_cut given before now out_before out_now e p w = record {
  later = p.later;
  out_later = w.later;
  ends = tt;
  fault = λ is. inr w.failed;
  cause = λ t is. inr w.failed;
  still_told = p.still_told;
  front = p.front;
  whole = λ t end. absurd end;
  contents = λ t end. absurd end;
  part = λ t. (length given.stores, inl (all_stored given.stores before.contents now.contents (p.contents t)));
  was_told = w.was_told;
  left = w.part;
  unwritten = λ e f. absurd (f w.failed);
}

deliver_none : (given : Answer) (before now : FilesView) (out : SinkView) (status : Status) → StoresAll given.stores before now (Err status) → Delivers given before now out out status
deliver_none given before now out Memory p = record {
  later = p.later;
  out_later = omega arith;
  ends = tt;
  fault = λ e. absurd (cc e);
  cause = λ t e. absurd (cc e);
  still_told = p.still_told;
  front = p.front;
  whole = λ t end. absurd end;
  contents = λ t end. absurd end;
  part = p.part;
  was_told = λ t. t;
  left = λ o. refl;
  unwritten = λ e f. absurd (cc e);
}
deliver_none given before now out WriteFault p = record {
  later = p.later;
  out_later = omega arith;
  ends = tt;
  fault = λ e. inl (p.fault refl);
  cause = λ t e. inl (p.fault refl, p.last t refl);
  still_told = p.still_told;
  front = p.front;
  whole = λ t end. absurd end;
  contents = λ t end. absurd end;
  part = p.part;
  was_told = λ t. t;
  left = λ o. (0, sym (append-nil out.taken));
  unwritten = λ e f. refl;
}
deliver_none given before now out other p = absurd p.ends

-- a store failed, and nothing was written
pub not_stored : (given : Answer) (stores : List Stored) (before now : FilesView) (out : SinkView) (status : Status) → stores ≡ given.stores → StoresAll stores before now (Err status) → Delivers given before now out out status
not_stored given stores before now out status same p = deliver_none given before now out status (subst (λ (l : List Stored). StoresAll l before now (Err status)) same p)

-- the stores stand, and a write failed
pub cut : {E : Type 0} (given : Answer) (stores : List Stored) (printed : List ℕ) (before now : FilesView) (out_before out_now : SinkView) (e : E) → stores ≡ given.stores → printed ≡ given.printed → StoresAll stores before now (Ok tt) → WritesAll {E = E} printed out_before out_now (Err e) → Delivers given before now out_before out_now WriteFault
cut {E = E} given stores printed before now out_before out_now e same_stores same_printed p w = deliver_cut {E = E} given before now out_before out_now e
    (subst (λ (l : List Stored). StoresAll l before now (Ok tt)) same_stores p)
    (subst (λ (l : List ℕ). WritesAll {E = E} l out_before out_now (Err e)) same_printed w)
