-- One fetch of a command, and then the rest of it.
use Rattle.std.proofs.Common.{◌≡◌, ℕ, true, List, [], ◌∷◌, ◌++◌, Result, Ok, Err, IsTrue, refl, sym, ◌∙◌, ap, subst, append_assoc, arith, IfOk}
use Rattle.std.proofs.lemmas.List.{append-nil}
use Rattle.vd_outside.specs.Files.{FilesView, Contents, fetched}
use Rattle.vd_outside.specs.declared.files.FilesCall.{FilesCall}
use Rattle.vd_outside.specs.declared.files.FilesCall.TheVariants.{Fetch}
use Rattle.vd_outside.specs.declared.faults.FetchFault.{FetchFault}
use Rattle.vd_outside.specs.declared.faults.FetchFault.TheVariants as fetch_fault
use Rattle.vd_cmd_plan.specs.declared.status.Status.{Status}
use Rattle.vd_cmd_plan.specs.declared.status.Status.TheVariants.{Memory, ReadFault, TooLong}
use Rattle.vd_cmd_plan.specs.declared.answer.Answer.{Answer}
use Rattle.vd_cmd_plan.specs.Loads.{Loads}
use Rattle.vd_cmd_plan.proofs.Fronts.{same_within, later_within}
use Rattle.vd_cmd_plan.specs.Plans.{Plan, with_file, refused, Executes, Computes, GrowsWithin, fetch_calls, only, Settles}

-- a plan that begins with a fetch
abbrev pub first_file : List ℕ → ℕ → (List ℕ → Contents → Plan) → Contents → Plan
first_file name limit rest files = with_file name limit (fetched (files name) limit) (λ bytes. rest bytes files)

record Begins (name : List ℕ) (fetches : List (List ℕ)) : Type 0 where
  tail : List FilesCall
  is : fetch_calls fetches ≡ Fetch name ∷ tail

begins : (name : List ℕ) (limit : ℕ) (f : Result (List ℕ) FetchFault) (rest : List ℕ → Plan) → Begins name (with_file name limit f rest).fetches
begins name limit (Ok bytes) rest = record { tail = fetch_calls (rest bytes).fetches; is = refl }
begins name limit (Err fetch_fault.TooLong) rest = record { tail = []; is = refl }
begins name limit (Err fetch_fault.Failed) rest = record { tail = []; is = refl }
begins name limit (Err fetch_fault.Memory) rest = record { tail = []; is = refl }

joined : (before now : List FilesCall) (name : List ℕ) (fetches : List (List ℕ)) → now ≡ before ++ Fetch name ∷ [] → Begins name fetches → GrowsWithin before now (fetch_calls fetches)
joined before now name fetches is b = (Fetch name ∷ [], is, (b.tail, b.is))

too_long_answer : (name : List ℕ) (limit : ℕ) (f : Result (List ℕ) FetchFault) (rest : List ℕ → Plan) (file : List ℕ) (at : ℕ) → file ≡ name → at ≡ limit → f ≡ Err fetch_fault.TooLong → refused (TooLong file at) ≡ (with_file name limit f rest).answer
too_long_answer name limit f rest file at is_file is_limit is = rw (is, is_file, is_limit)

pub load_err : (name : List ℕ) (limit : ℕ) (rest : List ℕ → Contents → Plan) (before now : FilesView) (status : Status) → Loads name limit before now (Err status) → Executes true (first_file name limit rest) before now (Err status)
load_err name limit rest before now Memory g = record {
  later = g.later;
  proper = refl;
  still_told = g.still_told;
  contents = g.contents;
  fault = λ file e. absurd (cc e);
  last = λ t file e. absurd (cc e);
  front = λ t. same_within before.asked now.asked _ (g.asked t);
  whole = λ t. tt;
  settled = λ t. tt;
}
load_err name limit rest before now (ReadFault file) g = record {
  later = g.later;
  proper = refl;
  still_told = g.still_told;
  contents = g.contents;
  fault = λ other e. let s : ReadFault file ≡ ReadFault other = cc e in g.fault other (ap (λ (x : Status). Err x) s);
  last = λ t other e. let s : other ≡ name = cc (e, g.ends) in ([], g.asked t ∙ ap (λ (x : List ℕ). before.asked ++ Fetch x ∷ []) (sym s));
  front = λ t. joined before.asked now.asked name _ (g.asked t) (begins name limit (fetched (before.contents name) limit) (λ bytes. rest bytes before.contents));
  whole = λ t. tt;
  settled = λ t. tt;
}
load_err name limit rest before now (TooLong file at) g = record {
  later = g.later;
  proper = refl;
  still_told = g.still_told;
  contents = g.contents;
  fault = λ other e. absurd (cc e);
  last = λ t other e. absurd (cc e);
  front = λ t. joined before.asked now.asked name _ (g.asked t) (begins name limit (fetched (before.contents name) limit) (λ bytes. rest bytes before.contents));
  whole = λ t. tt;
  settled = λ t. too_long_answer name limit _ _ file at g.ends.0 g.ends.1 (g.too_long t file at refl);
}
load_err name limit rest before now other g = absurd g.ends

task_ok : (name : List ℕ) (limit : ℕ) (f : Result (List ℕ) FetchFault) (rest : List ℕ → Plan) (bytes : List ℕ) → f ≡ Ok bytes → with_file name limit f rest ≡ record { fetches = name ∷ (rest bytes).fetches; answer = (rest bytes).answer }
task_ok name limit f rest bytes is = rw is

pub load_ok : (name : List ℕ) (limit : ℕ) (rest : List ℕ → Contents → Plan) (before mid now : FilesView) (bytes : List ℕ) (result : Result Answer Status) → Loads name limit before mid (Ok bytes) → Executes true (rest bytes) mid now result → Executes true (first_file name limit rest) before now result
load_ok name limit rest before mid now bytes result g w = record {
  later = omega arith;
  proper = w.proper;
  fault = λ file e. let r = w.fault file e in let l = g.later in omega arith;
  last = λ t file e. let p = w.last (g.still_told t) file e in
      (Fetch name ∷ p.0, p.1 ∙ ap (λ (l : List FilesCall). l ++ (p.0 ++ Fetch file ∷ [])) (g.asked t) ∙ append_assoc before.asked (Fetch name ∷ []) (p.0 ++ Fetch file ∷ []));
  still_told = λ t. w.still_told (g.still_told t);
  contents = λ t. w.contents (g.still_told t) ∙ g.contents t;
  front = λ t. subst (λ (l : List FilesCall). GrowsWithin before.asked now.asked l) (sym (fetched_first t)) (later_within before.asked mid.asked now.asked (Fetch name ∷ []) _ (g.asked t) (w.front (g.still_told t)));
  whole = λ t. subst (λ l. IfOk result (λ answer. now.asked ≡ l)) (sym (all t)) (w.whole (g.still_told t));
  settled = λ t. subst (λ a. Settles a result) (sym (answer t)) (w.settled (g.still_told t));
}
  where
    here : IsTrue before.told → first_file name limit rest before.contents ≡ record { fetches = name ∷ (rest bytes before.contents).fetches; answer = (rest bytes before.contents).answer }
    here t = task_ok name limit _ _ bytes (g.given t)

    answer : IsTrue before.told → (first_file name limit rest before.contents).answer ≡ (rest bytes mid.contents).answer
    answer t = ap (λ (x : Plan). x.answer) (here t) ∙ ap (λ (m : Contents). (rest bytes m).answer) (sym (g.contents t))

    fetched_first : IsTrue before.told → fetch_calls (first_file name limit rest before.contents).fetches ≡ Fetch name ∷ fetch_calls (rest bytes mid.contents).fetches
    fetched_first t = ap (λ (x : Plan). fetch_calls x.fetches) (here t) ∙ ap (λ (m : Contents). Fetch name ∷ fetch_calls (rest bytes m).fetches) (sym (g.contents t))

    all : IsTrue before.told → before.asked ++ fetch_calls (first_file name limit rest before.contents).fetches ≡ mid.asked ++ fetch_calls (rest bytes mid.contents).fetches
    all t = ap (λ (x : Plan). before.asked ++ fetch_calls x.fetches) (here t)
        ∙ sym (append_assoc (before.asked) (Fetch name ∷ []) (fetch_calls (rest bytes before.contents).fetches))
        ∙ ap (λ (l : List FilesCall). l ++ fetch_calls (rest bytes before.contents).fetches) (sym (g.asked t))
        ∙ ap (λ (m : Contents). mid.asked ++ fetch_calls (rest bytes m).fetches) (sym (g.contents t))

pub computes : (answer : Answer) (now : FilesView) (result : Result Answer Status) → Computes answer result → Executes true (λ files. only answer) now now result
computes answer now result c = record {
  later = omega arith;
  proper = c.proper;
  fault = λ file e. absurd (c.no_fault file e);
  last = λ t file e. absurd (c.no_fault file e);
  still_told = λ t. t;
  contents = λ t. refl;
  front = λ t. same_within now.asked now.asked [] refl;
  whole = λ t. whole_at result;
  settled = λ t. c.settled;
}
  where
    whole_at : (r : Result Answer Status) → IfOk r (λ a. now.asked ≡ now.asked ++ [])
    whole_at (Ok a) = sym (append-nil now.asked)
    whole_at (Err s) = tt
