-- The calls that a spawner was asked which tells them, by the history of a run.
use Rattle.std.proofs.Common.{arith, ◌≡◌, ◌+◌, ℕ, zero, suc, true, IsTrue, List, [], ◌∷◌, ◌++◌, length, take, replicate, slice_get, length-append, append-nil, append_assoc, add-zero, Option, Some, None, IfOk, OnOk, Ok, Err, Result, refl, sym, ap, subst, ◌∙◌}
use Rattle.std.proofs.lemmas.List.{length-map, replicate_more}
use Rattle.std.proofs.lemmas.Option.{none-some}
use Rattle.vd_base.specs.declared.faults.CallFault.{CallFault}
use Rattle.vd_base.specs.declared.faults.CallFault.TheVariants as call_fault
use Rattle.vd_base.specs.declared.ids.HostId.{HostId}
use Rattle.vd_base.specs.Lexical.{number_of}
use Rattle.vd_outside.specs.Causes.{asked_after}
use Rattle.vd_outside.specs.Spawner.{ReadsLine, SpawnerView, Starts}
use Rattle.vd_outside.specs.declared.spawner.SpawnerCall.{SpawnerCall}
use Rattle.vd_outside.specs.declared.spawner.SpawnerCall.TheVariants as call
use Rattle.vd_host_children.specs.Asked.{Asks, AsksFront, InRead, InStart, IsFront, end_calls, read_calls, run_calls, start_calls}
use Rattle.vd_host_children.specs.Finishing.{Ends, Unfinished, Well, WithStatus}
use Rattle.vd_host_children.specs.Lines.{ArePrinted, ended}
use Rattle.vd_host_children.specs.Reading.{Gives, NoLine, NoRoom, NotFinished, NotRead, OneLine, Reads, TooShort, Whole, WrongLine}
use Rattle.vd_host_children.specs.Runs.{AllEnded, NoNumber, NoPlace, NoneRead, NoneStarted, NotAllRead, NotAllStarted, NotBegun, NotReadWell, OneRead, OneStarted, ReadToEnd, RunsChildren, Started, StopsAtRead, StopsAtStart}
use Rattle.vd_host_children.specs.Starting.{AnotherLine, Begins, Listening, NoFirstLine, NotStarted, Silent, SilentFault}
use Rattle.vd_host_children.specs.declared.fault.ChildrenFault.{ChildrenFault}

-- calls that were added to those that were asked
pub record Adds (before now : SpawnerView) (calls : List SpawnerCall) : Type 0 where
  pub told : IsTrue now.told
  pub asked : now.asked ≡ before.asked ++ calls

adds_none : (at : SpawnerView) → IsTrue at.told → Adds at at []
adds_none at told = record { told = told; asked = sym (append-nil at.asked) }

adds_both : (a b c : SpawnerView) (xs ys : List SpawnerCall) → Adds a b xs → Adds b c ys → Adds a c (xs ++ ys)
adds_both a b c xs ys first second = record { told = second.told; asked = second.asked ∙ ap (λ (l : List SpawnerCall). l ++ ys) first.asked ∙ append_assoc a.asked xs ys }

-- a call that gave nothing was asked, but where memory ran out
abbrev attempt : SpawnerCall → CallFault → List SpawnerCall
attempt asked call_fault.Failed = asked ∷ []
attempt asked call_fault.Memory = []

attempt_asked : (T : Type 0) (before : List SpawnerCall) (asked : SpawnerCall) (cause : CallFault) → asked_after {T = T} before asked (Err cause) ≡ before ++ attempt asked cause
attempt_asked T before asked call_fault.Failed = refl
attempt_asked T before asked call_fault.Memory = sym (append-nil before)

-- fronts
front_all : (calls : List SpawnerCall) → IsFront calls calls
front_all calls = record { rest = []; all_are = sym (append-nil calls) }

front_after : (xs calls all : List SpawnerCall) → IsFront calls all → IsFront (xs ++ calls) (xs ++ all)
front_after xs calls all front = record { rest = front.rest; all_are = ap (λ (l : List SpawnerCall). xs ++ l) front.all_are ∙ sym (append_assoc xs calls front.rest) }

front_attempt : (asked : SpawnerCall) (cause : CallFault) (more : List SpawnerCall) → IsFront (attempt asked cause) (asked ∷ more)
front_attempt asked call_fault.Failed more = record { rest = more; all_are = refl }
front_attempt asked call_fault.Memory more = record { rest = asked ∷ more; all_are = refl }

starts_adds : (program : List ℕ) (words : List (List ℕ)) (before now : SpawnerView) (child : ℕ) → Starts program words before now (Ok child) → IsTrue before.told → Adds before now (call.Start program words ∷ [])
starts_adds program words before now child s told = record { told = s.still_told told; asked = s.asked told }

start_attempt : (program : List ℕ) (words : List (List ℕ)) (before now : SpawnerView) (cause : CallFault) → Starts program words before now (Err cause) → IsTrue before.told
    → Adds before now (attempt (call.Start program words) cause)
start_attempt program words before now cause s told = record { told = s.still_told told; asked = s.asked told ∙ attempt_asked ℕ before.asked (call.Start program words) cause }

line_adds : (child : ℕ) (before now : SpawnerView) (answer : Option (List ℕ)) → ReadsLine child before now (Ok answer) → IsTrue before.told → Adds before now (call.Line child ∷ [])
line_adds child before now answer s told = record { told = s.still_told told; asked = s.asked told }

line_attempt : (child : ℕ) (before now : SpawnerView) (cause : CallFault) → ReadsLine child before now (Err cause) → IsTrue before.told → Adds before now (attempt (call.Line child) cause)
line_attempt child before now cause s told = record { told = s.still_told told; asked = s.asked told ∙ attempt_asked (Option (List ℕ)) before.asked (call.Line child) cause }

-- some of these calls were asked, and all of them with Ok
record Step {T : Type 0} (before now : SpawnerView) (all : List SpawnerCall) (result : Result T ChildrenFault) : Type 0 where
  calls : List SpawnerCall
  adds : Adds before now calls
  front : IsFront calls all
  whole : OnOk result (calls ≡ all)

ends_step : (child : ℕ) (host : HostId) (before now : SpawnerView) {result : Result (Unit {0}) ChildrenFault} → Ends child host before now result → IsTrue before.told
    → Step before now (call.Finish child ∷ []) result
ends_step child host before now (Well f) told = record {
  calls = call.Finish child ∷ [];
  adds = record { told = f.still_told told; asked = f.asked told };
  front = front_all (call.Finish child ∷ []);
  whole = refl;
}
ends_step child host before now (WithStatus status other f) told = record {
  calls = call.Finish child ∷ [];
  adds = record { told = f.still_told told; asked = f.asked told };
  front = front_all (call.Finish child ∷ []);
  whole = tt;
}
ends_step child host before now (Unfinished cause f) told = record {
  calls = attempt (call.Finish child) cause;
  adds = record { told = f.still_told told; asked = f.asked told ∙ attempt_asked ℕ before.asked (call.Finish child) cause };
  front = front_attempt (call.Finish child) cause [];
  whole = tt;
}

-- how a child begins
record Begun (program : List ℕ) (words : List (List ℕ)) (before now : SpawnerView) (result : Result ℕ ChildrenFault) : Type 0 where
  calls : List SpawnerCall
  adds : Adds before now calls
  front : IsFront calls (call.Start program words ∷ call.Line before.given ∷ call.Finish before.given ∷ [])
  whole : OnOk result (calls ≡ call.Start program words ∷ call.Line before.given ∷ [])
  number : IfOk result (λ child. child ≡ before.given)
  one_more : OnOk result (now.given ≡ before.given + 1)

-- a start and a line, and what comes behind them
begun_line : (program : List ℕ) (words : List (List ℕ)) (child : ℕ) (before started now : SpawnerView) (answer : Option (List ℕ)) → Starts program words before started (Ok child)
    → ReadsLine child started now (Ok answer) → IsTrue before.told → Adds before now (call.Start program words ∷ call.Line before.given ∷ [])
begun_line program words child before started now answer s l told =
    let first = starts_adds program words before started child s told in
    subst (λ (n : ℕ). Adds before now (call.Start program words ∷ call.Line n ∷ [])) s.number.0
    (adds_both before started now (call.Start program words ∷ []) (call.Line child ∷ []) first (line_adds child started now answer l first.told))

begun_end : (program : List ℕ) (words : List (List ℕ)) (host : HostId) (child : ℕ) (before started over now : SpawnerView) (answer : Option (List ℕ)) (result : Result (Unit {0}) ChildrenFault)
    → Starts program words before started (Ok child) → ReadsLine child started over (Ok answer) → Ends child host over now result → IsTrue before.told
    → (calls : List SpawnerCall) × (Adds before now calls × IsFront calls (call.Start program words ∷ call.Line before.given ∷ call.Finish before.given ∷ []))
begun_end program words host child before started over now answer result s l e told =
    let first = begun_line program words child before started over answer s l told in
    let last = ends_step child host over now e first.told in (
      (call.Start program words ∷ call.Line before.given ∷ []) ++ last.calls,
      (
        adds_both before over now (call.Start program words ∷ call.Line before.given ∷ []) last.calls first last.adds,
        subst (λ (n : ℕ). IsFront ((call.Start program words ∷ call.Line before.given ∷ []) ++ last.calls) (call.Start program words ∷ call.Line before.given ∷ call.Finish n ∷ []))
            s.number.0 (front_after (call.Start program words ∷ call.Line before.given ∷ []) last.calls (call.Finish child ∷ []) last.front),
      ),
    )

begun : (program : List ℕ) (words : List (List ℕ)) (host : HostId) (before now : SpawnerView) {result : Result ℕ ChildrenFault} → Begins program words host before now result → IsTrue before.told
    → Begun program words before now result
begun program words host before now (Listening child started s l) told = record {
  calls = call.Start program words ∷ call.Line before.given ∷ [];
  adds = begun_line program words child before started now _ s l told;
  front = record { rest = call.Finish before.given ∷ []; all_are = refl };
  whole = refl;
  number = s.number.0;
  one_more = l.given ∙ s.number.1;
}
begun program words host before now (NotStarted cause s) told = record {
  calls = attempt (call.Start program words) cause;
  adds = start_attempt program words before now cause s told;
  front = front_attempt (call.Start program words) cause (call.Line before.given ∷ call.Finish before.given ∷ []);
  whole = tt;
  number = tt;
  one_more = tt;
}
begun program words host before now (NoFirstLine child started cause s l) told =
    let first = starts_adds program words before started child s told in
    record {
      calls = (call.Start program words ∷ []) ++ attempt (call.Line child) cause;
      adds = adds_both before started now (call.Start program words ∷ []) (attempt (call.Line child) cause) first (line_attempt child started now cause l first.told);
      front = front_after (call.Start program words ∷ []) (attempt (call.Line child) cause) (call.Line before.given ∷ call.Finish before.given ∷ [])
          (subst (λ (n : ℕ). IsFront (attempt (call.Line child) cause) (call.Line n ∷ call.Finish before.given ∷ [])) s.number.0 (front_attempt (call.Line child) cause (call.Finish before.given ∷ [])));
      whole = tt;
      number = tt;
      one_more = tt;
    }
begun program words host before now (AnotherLine child started line s l other) told = record {
  calls = call.Start program words ∷ call.Line before.given ∷ [];
  adds = begun_line program words child before started now _ s l told;
  front = record { rest = call.Finish before.given ∷ []; all_are = refl };
  whole = tt;
  number = tt;
  one_more = tt;
}
begun program words host before now (Silent child started over s l e) told =
    let stopped = begun_end program words host child before started over now _ _ s l e told in
    record { calls = stopped.0; adds = stopped.1.0; front = stopped.1.1; whole = tt; number = tt; one_more = tt }
begun program words host before now (SilentFault child started over cause s l e) told =
    let stopped = begun_end program words host child before started over now _ _ s l e told in
    record { calls = stopped.0; adds = stopped.1.0; front = stopped.1.1; whole = tt; number = tt; one_more = tt }

-- lines that were read
gives_adds : (child : ℕ) (start now : SpawnerView) {lines : List (List ℕ)} → Gives child start lines now → IsTrue start.told → Adds start now (replicate (length lines) (call.Line child))
gives_adds child start now NoLine told = adds_none start told
gives_adds child start now (OneLine lines line before end g r) told =
    let first = gives_adds child start before g told in
    subst (λ (l : List SpawnerCall). Adds start end l)
    (replicate_more (length lines) (call.Line child) ∙ ap (λ (n : ℕ). replicate n (call.Line child)) (sym (length-append lines (line ∷ []))))
    (adds_both start before end (replicate (length lines) (call.Line child)) (call.Line child ∷ []) first (line_adds child before end (Some line) r first.told))

-- one line more
line_more : (child : ℕ) (start now later : SpawnerView) (lines : List (List ℕ)) (answer : Option (List ℕ)) → Gives child start lines now → ReadsLine child now later (Ok answer) → IsTrue start.told
    → Adds start later (replicate (length lines + 1) (call.Line child))
line_more child start now later lines answer g r told =
    let first = gives_adds child start now g told in
    subst (λ (l : List SpawnerCall). Adds start later l) (replicate_more (length lines) (call.Line child))
    (adds_both start now later (replicate (length lines) (call.Line child)) (call.Line child ∷ []) first (line_adds child now later answer r first.told))

lines_count : (lines : List (List ℕ)) (words : List ℕ) → ArePrinted lines words true → length lines ≡ length words + 1
lines_count lines words form =
    ap (λ (l : List (List ℕ)). length l) form.lines_are ∙ length-append form.numbers (ended ∷ [])
    ∙ ap (λ (n : ℕ). n + 1) (sym (length-map form.numbers number_of) ∙ ap (λ (l : List (Option ℕ)). length l) form.words_are ∙ length-map {B = Option ℕ} words Some)

-- how a child is read
record Read (child : ℕ) (start end : SpawnerView) (result : Result (List ℕ) ChildrenFault) : Type 0 where
  lines : ℕ
  calls : List SpawnerCall
  adds : Adds start end calls
  front : IsFront calls (end_calls child lines)
  whole : IfOk result (λ words. calls ≡ end_calls child (length words + 2))

all_after : (xs calls all : List SpawnerCall) (outcome : Result (Unit {0}) ChildrenFault) → OnOk outcome (calls ≡ all) → OnOk outcome (xs ++ calls ≡ xs ++ all)
all_after xs calls all (Ok done) is = ap (λ (l : List SpawnerCall). xs ++ l) is
all_after xs calls all (Err cause) is = tt

read_end : (child : ℕ) (host : HostId) (start now over end : SpawnerView) (lines : List (List ℕ)) (result : Result (Unit {0}) ChildrenFault) → Gives child start lines now → ReadsLine child now over (Ok None)
    → Ends child host over end result → IsTrue start.told → Step start end (end_calls child (length lines + 1)) result
read_end child host start now over end lines result g r e told =
    let first = line_more child start now over lines None g r told in
    let last = ends_step child host over end e first.told in
    record {
      calls = replicate (length lines + 1) (call.Line child) ++ last.calls;
      adds = adds_both start over end (replicate (length lines + 1) (call.Line child)) last.calls first last.adds;
      front = front_after (replicate (length lines + 1) (call.Line child)) last.calls (call.Finish child ∷ []) last.front;
      whole = all_after (replicate (length lines + 1) (call.Line child)) last.calls (call.Finish child ∷ []) result last.whole;
    }

read_line : (child : ℕ) (start now end : SpawnerView) (lines : List (List ℕ)) (line : List ℕ) (cause : ChildrenFault) → Gives child start lines now → ReadsLine child now end (Ok (Some line))
    → IsTrue start.told → Read child start end (Err cause)
read_line child start now end lines line cause g r told = record {
  lines = length lines + 1;
  calls = replicate (length lines + 1) (call.Line child);
  adds = line_more child start now end lines (Some line) g r told;
  front = record { rest = call.Finish child ∷ []; all_are = refl };
  whole = tt;
}

read_adds : (child : ℕ) (host : HostId) (start end : SpawnerView) {result : Result (List ℕ) ChildrenFault} → Reads child host start end result → IsTrue start.told → Read child start end result
read_adds child host start end (Whole words now over p r e) told =
    let s = read_end child host start now over end p.lines (Ok tt) p.gives r e told in
    record {
      lines = length p.lines + 1;
      calls = s.calls;
      adds = s.adds;
      front = s.front;
      whole = s.whole ∙ ap (λ (n : ℕ). end_calls child n) (let e : length p.lines ≡ length words + 1 = lines_count p.lines words p.form in omega (arith, e));
    }
read_adds child host start end (TooShort words now over p r e) told =
    let s = read_end child host start now over end p.lines (Ok tt) p.gives r e told in
    record { lines = length p.lines + 1; calls = s.calls; adds = s.adds; front = s.front; whole = tt }
read_adds child host start end (NotFinished words finished now over cause p r e) told =
    let s = read_end child host start now over end p.lines (Err cause) p.gives r e told in
    record { lines = length p.lines + 1; calls = s.calls; adds = s.adds; front = s.front; whole = tt }
read_adds child host start end (NotRead words finished now cause p r) told =
    let first = gives_adds child start now p.gives told in
    record {
      lines = length p.lines + 1;
      calls = replicate (length p.lines) (call.Line child) ++ attempt (call.Line child) cause;
      adds = adds_both start now end (replicate (length p.lines) (call.Line child)) (attempt (call.Line child) cause) first (line_attempt child now end cause r first.told);
      front = subst (λ (l : List SpawnerCall). IsFront (replicate (length p.lines) (call.Line child) ++ attempt (call.Line child) cause) l)
          (sym (append_assoc (replicate (length p.lines) (call.Line child)) (call.Line child ∷ []) (call.Finish child ∷ []))
          ∙ ap (λ (l : List SpawnerCall). l ++ call.Finish child ∷ []) (replicate_more (length p.lines) (call.Line child)))
          (front_after (replicate (length p.lines) (call.Line child)) (attempt (call.Line child) cause) (call.Line child ∷ call.Finish child ∷ [])
          (front_attempt (call.Line child) cause (call.Finish child ∷ [])));
      whole = tt;
    }
read_adds child host start end (WrongLine words finished now line p r breaks) told = read_line child start now end p.lines line _ p.gives r told
read_adds child host start end (NoRoom words finished now line p r) told = read_line child start now end p.lines line _ p.gives r told

-- children that are numbered from this number
abbrev pub Numbered : ℕ → List ℕ → Type 0
Numbered first [] = Unit {0}
Numbered first (child ∷ children) = (child ≡ first) × Numbered (suc first) children

numbered_more : (first : ℕ) (children : List ℕ) (child : ℕ) → Numbered first children → child ≡ first + length children → Numbered first (children ++ child ∷ [])
numbered_more first [] child numbered is = (is ∙ add-zero first, tt)
numbered_more first (each ∷ children) child numbered is = (numbered.0, numbered_more (suc first) children child numbered.1 (omega (arith, is)))

pub numbered_front : (first : ℕ) (children : List ℕ) (child : ℕ) → Numbered first (children ++ child ∷ []) → Numbered first children
numbered_front first [] child numbered = tt
numbered_front first (each ∷ children) child numbered = (numbered.0, numbered_front (suc first) children child numbered.1)

pub numbered_last : (first : ℕ) (children : List ℕ) (child : ℕ) → Numbered first (children ++ child ∷ []) → child ≡ first + length children
numbered_last first [] child numbered = numbered.0 ∙ sym (add-zero first)
numbered_last first (each ∷ children) child numbered = let e : child ≡ suc first + length children = numbered_last (suc first) children child numbered.1 in omega (arith, e)

pub numbered_at : (first : ℕ) (children : List ℕ) (place child : ℕ) → Numbered first children → slice_get children place ≡ Some child → child ≡ first + place
numbered_at first [] place child numbered at = absurd (none-some child at)
numbered_at first (each ∷ children) zero child numbered at = let e : each ≡ child = cc in sym e ∙ numbered.0 ∙ sym (add-zero first)
numbered_at first (each ∷ children) (suc place) child numbered at = let e : child ≡ suc first + place = numbered_at (suc first) children place child numbered.1 at in omega (arith, e)

-- one host more is started, and one child more is read
start_calls_more : (program : List ℕ) (child : ℕ) (hosts : List (List (List ℕ))) (words : List (List ℕ))
    → start_calls program child (hosts ++ words ∷ []) ≡ start_calls program child hosts ++ call.Start program words ∷ call.Line (child + length hosts) ∷ []
start_calls_more program child [] words = ap (λ (n : ℕ). call.Start program words ∷ call.Line n ∷ []) (sym (add-zero child))
start_calls_more program child (first ∷ hosts) words =
    let e : suc child + length hosts ≡ child + length (first ∷ hosts) = omega arith in
    ap (λ (l : List SpawnerCall). call.Start program first ∷ call.Line child ∷ l)
    (start_calls_more program (suc child) hosts words ∙ ap (λ (n : ℕ). start_calls program (suc child) hosts ++ call.Start program words ∷ call.Line n ∷ []) e)

read_calls_more : (child : ℕ) (printed : List (List ℕ)) (words : List ℕ) → read_calls child (printed ++ words ∷ []) ≡ read_calls child printed ++ end_calls (child + length printed) (length words + 2)
read_calls_more child [] words = append-nil (end_calls child (length words + 2)) ∙ ap (λ (n : ℕ). end_calls n (length words + 2)) (sym (add-zero child))
read_calls_more child (first ∷ printed) words =
    let e : suc child + length printed ≡ child + length (first ∷ printed) = omega arith in
    ap (λ (l : List SpawnerCall). end_calls child (length first + 2) ++ l)
    (read_calls_more (suc child) printed words ∙ ap (λ (n : ℕ). read_calls (suc child) printed ++ end_calls n (length words + 2)) e)
    ∙ sym (append_assoc (end_calls child (length first + 2)) (read_calls (suc child) printed) (end_calls (child + length (first ∷ printed)) (length words + 2)))

-- hosts that were started
pub record AllBegun (program : List ℕ) (start : SpawnerView) (hosts : List (List (List ℕ))) (children : List ℕ) (now : SpawnerView) : Type 0 where
  pub adds : Adds start now (start_calls program start.given hosts)
  pub given : now.given ≡ start.given + length hosts
  pub numbered : Numbered start.given children
  pub count : length children ≡ length hosts

pub all_begun : (program : List ℕ) (start now : SpawnerView) {hosts : List (List (List ℕ))} {children : List ℕ} → Started program start hosts children now → IsTrue start.told
    → AllBegun program start hosts children now
all_begun program start now NoneStarted told = record { adds = adds_none start told; given = sym (add-zero start.given); numbered = tt; count = refl }
all_begun program start now (OneStarted hosts children words child before end s b) told =
    let first = all_begun program start before s told in
    let last = begun program words _ before end b first.adds.told in
    let longer : length (hosts ++ words ∷ []) ≡ length hosts + 1 = length-append hosts (words ∷ []) in
    let more : length (children ++ child ∷ []) ≡ length children + 1 = length-append children (child ∷ []) in
    record {
      adds = subst (λ (l : List SpawnerCall). Adds start end l)
          (ap (λ (l : List SpawnerCall). start_calls program start.given hosts ++ l) (last.whole ∙ ap (λ (n : ℕ). call.Start program words ∷ call.Line n ∷ []) first.given)
          ∙ sym (start_calls_more program start.given hosts words))
          (adds_both start before end (start_calls program start.given hosts) last.calls first.adds last.adds);
      given = (let a = last.one_more in let b = first.given in omega (arith, a, b, longer));
      numbered = numbered_more start.given children child first.numbered (last.number ∙ first.given ∙ ap (λ (n : ℕ). start.given + n) (sym first.count));
      count = more ∙ ap (λ (n : ℕ). n + 1) first.count ∙ sym longer;
    }

-- children that were read
record AllRead (first : ℕ) (start : SpawnerView) (children : List ℕ) (printed : List (List ℕ)) (now : SpawnerView) : Type 0 where
  adds : Adds start now (read_calls first printed)
  count : length printed ≡ length children

all_read : (first : ℕ) (start now : SpawnerView) {children : List ℕ} {printed : List (List ℕ)} → ReadToEnd start children printed now → Numbered first children → IsTrue start.told
    → AllRead first start children printed now
all_read first start now NoneRead numbered told = record { adds = adds_none start told; count = refl }
all_read first start now (OneRead children printed child words before end r b) numbered told =
    let so_far = all_read first start before r (numbered_front first children child numbered) told in
    let last = read_adds child _ before end b so_far.adds.told in
    let number : child ≡ first + length printed = numbered_last first children child numbered ∙ ap (λ (n : ℕ). first + n) (sym so_far.count) in
    record {
      adds = subst (λ (l : List SpawnerCall). Adds start end l)
          (ap (λ (l : List SpawnerCall). read_calls first printed ++ l) (last.whole ∙ ap (λ (n : ℕ). end_calls n (length words + 2)) number)
          ∙ sym (read_calls_more first printed words))
          (adds_both start before end (read_calls first printed) last.calls so_far.adds last.adds);
      count = length-append printed (words ∷ []) ∙ ap (λ (n : ℕ). n + 1) so_far.count ∙ sym (length-append children (child ∷ []));
    }

take_more_at : {X : Type 0} (xs : List X) (place : ℕ) (x : X) → slice_get xs place ≡ Some x → take (suc place) xs ≡ take place xs ++ x ∷ []
take_more_at [] place x at = absurd (none-some x at)
take_more_at (first ∷ xs) zero x at = let e : first ≡ x = cc in ap (λ y. y ∷ []) e
take_more_at (first ∷ xs) (suc place) x at = ap (λ l. first ∷ l) (take_more_at xs place x at)

pub length_taken : {X : Type 0} (xs : List X) (place : ℕ) (x : X) → slice_get xs place ≡ Some x → length (take place xs) ≡ place
length_taken [] place x at = absurd (none-some x at)
length_taken (first ∷ xs) zero x at = refl
length_taken (first ∷ xs) (suc place) x at = let e : length (take place xs) ≡ place = length_taken xs place x at in omega (arith, e)

-- a run that stops at the start of the host behind so many
stops_at : (program : List ℕ) (hosts : List (List (List ℕ))) (children : List ℕ) (words : List (List ℕ)) (start now end : SpawnerView) (result : Result ℕ ChildrenFault)
    → Started program start (take (length children) hosts) children now → slice_get hosts (length children) ≡ Some words → Begun program words now end result → IsTrue start.told
    → AsksFront program hosts start end
stops_at program hosts children words start now end result s at b told =
    let first = all_begun program start now s told in
    let place : length (take (length children) hosts) ≡ length children = length_taken hosts (length children) words at in
    let child : now.given ≡ start.given + length children = first.given ∙ ap (λ (n : ℕ). start.given + n) place in
    let fronts : List SpawnerCall = start_calls program start.given (take (length children) hosts) in
    record {
      calls = fronts ++ b.calls;
      asked = (adds_both start now end fronts b.calls first.adds b.adds).asked;
      stops = InStart (length children)
          (subst (λ (l : List SpawnerCall). IsFront (fronts ++ b.calls) l)
          (ap (λ (n : ℕ). fronts ++ call.Start program words ∷ call.Line n ∷ call.Finish n ∷ []) child
          ∙ sym (append_assoc fronts (call.Start program words ∷ call.Line (start.given + length children) ∷ []) (call.Finish (start.given + length children) ∷ []))
          ∙ ap (λ (l : List SpawnerCall). l ++ call.Finish (start.given + length children) ∷ [])
          (ap (λ (n : ℕ). fronts ++ call.Start program words ∷ call.Line (start.given + n) ∷ []) (sym place)
          ∙ sym (start_calls_more program start.given (take (length children) hosts) words)
          ∙ ap (λ (l : List (List (List ℕ))). start_calls program start.given l) (sym (take_more_at hosts (length children) words at))))
          (front_after fronts b.calls (call.Start program words ∷ call.Line now.given ∷ call.Finish now.given ∷ []) b.front));
    }

start_asks : (program : List ℕ) (hosts : List (List (List ℕ))) (start end : SpawnerView) {cause : ChildrenFault} → StopsAtStart program hosts start end cause → IsTrue start.told → AsksFront program hosts start end
start_asks program hosts start end (NotBegun children words now cause s at b) told =
    stops_at program hosts children words start now end (Err cause) s at (begun program words _ now end b (all_begun program start now s told).adds.told) told
start_asks program hosts start end (NoNumber children words child now s at b) told =
    stops_at program hosts children words start now end (Ok child) s at (begun program words _ now end b (all_begun program start now s told).adds.told) told

-- a run that stops at the child behind those that printed these words
stops_in : (program : List ℕ) (hosts : List (List (List ℕ))) (children : List ℕ) (printed : List (List ℕ)) (child : ℕ) (start started now end : SpawnerView) (result : Result (List ℕ) ChildrenFault)
    → AllBegun program start hosts children started → ReadToEnd started (take (length printed) children) printed now → slice_get children (length printed) ≡ Some child
    → Numbered start.given (take (length printed) children) → (IsTrue now.told → Read child now end result) → AsksFront program hosts start end
stops_in program hosts children printed child start started now end result s r at numbered b =
    let first = all_read start.given started now r numbered s.adds.told in
    let last = b first.adds.told in
    let front = adds_both start started now (start_calls program start.given hosts) (read_calls start.given printed) s.adds first.adds in
    record {
      calls = run_calls program start.given hosts printed ++ last.calls;
      asked = (adds_both start now end (run_calls program start.given hosts printed) last.calls front last.adds).asked;
      stops = InRead printed last.lines
          (front_after (run_calls program start.given hosts printed) last.calls (end_calls (start.given + length printed) last.lines)
          (subst (λ (n : ℕ). IsFront last.calls (end_calls n last.lines)) (numbered_at start.given children (length printed) child s.numbered at) last.front));
    }

pub numbered_taken : (first : ℕ) (children : List ℕ) (place : ℕ) → Numbered first children → Numbered first (take place children)
numbered_taken first [] zero numbered = tt
numbered_taken first [] (suc place) numbered = tt
numbered_taken first (child ∷ children) zero numbered = tt
numbered_taken first (child ∷ children) (suc place) numbered = (numbered.0, numbered_taken (suc first) children place numbered.1)

read_asks : (program : List ℕ) (hosts : List (List (List ℕ))) (children : List ℕ) (start started end : SpawnerView) {cause : ChildrenFault} → AllBegun program start hosts children started
    → StopsAtRead children started end cause → AsksFront program hosts start end
read_asks program hosts children start started end s (NotReadWell printed child now cause r at b) =
    stops_in program hosts children printed child start started now end (Err cause) s r at (numbered_taken start.given children (length printed) s.numbered) (λ told. read_adds child _ now end b told)
read_asks program hosts children start started end s (NoPlace printed child words now r at b) =
    stops_in program hosts children printed child start started now end (Ok words) s r at (numbered_taken start.given children (length printed) s.numbered) (λ told. read_adds child _ now end b told)

pub run_asks : (program : List ℕ) (hosts : List (List (List ℕ))) (start end : SpawnerView) {result : Result (List (List ℕ)) ChildrenFault} → RunsChildren program hosts start end result → IsTrue start.told
    → Asks program hosts start end result
run_asks program hosts start end (AllEnded children printed now s r) told =
    let first = all_begun program start now s told in
    let last = all_read start.given now end r first.numbered first.adds.told in
    (adds_both start now end (start_calls program start.given hosts) (read_calls start.given printed) first.adds last.adds).asked
run_asks program hosts start end (NotAllStarted cause s) told = start_asks program hosts start end s told
run_asks program hosts start end (NotAllRead children now cause s r) told = read_asks program hosts children start now end (all_begun program start now s told) r
