-- Where the children that wait are hosts, a run stops where memory ran out, or at a call that failed.
use Rattle.std.proofs.Common.{arith, ◌≡◌, ◌⊎◌, inl, inr, ◌+◌, ◌<◌, ◌≤◌, ℕ, zero, suc, Bool, true, false, IsTrue, List, [], ◌∷◌, ◌++◌, length, map, drop, take, slice_get, append-nil, append_assoc, length-append, Option, Some, None, IfErr, Result, refl, sym, ap, subst, ◌∙◌}
use Rattle.std.proofs.lemmas.List.{length-map, length-take-le}
use Rattle.std.proofs.lemmas.Option.{none-some, slice_get_within}
use Rattle.std.specs.Str.{bytes_eq}
use Rattle.vd_base.specs.Lexical.{number_of}
use Rattle.vd_base.specs.declared.faults.CallFault.{CallFault}
use Rattle.vd_base.specs.declared.faults.CallFault.TheVariants as call_fault
use Rattle.vd_base.specs.declared.ids.HostId.{HostId}
use Rattle.vd_outside.specs.Spawner.{GivesStatus, SpawnerView, StartsNext, next_child}
use Rattle.vd_outside.specs.declared.child.Child.{Child}
use Rattle.vd_host_children.specs.Faults.{fault_at}
use Rattle.vd_host_children.specs.Finishing.{Ends, Unfinished, Well, WithStatus}
use Rattle.vd_host_children.specs.Lines.{ArePrinted, Breaks, ended, listening, most_words}
use Rattle.vd_host_children.specs.Reading.{NoRoom, NotFinished, NotRead, Reads, TooShort, Whole, WrongLine}
use Rattle.vd_host_children.specs.Runs.{AllEnded, NoNumber, NoPlace, NotAllRead, NotAllStarted, NotBegun, NotReadWell, RunsChildren, Started, StopsAtRead, StopsAtStart}
use Rattle.vd_host_children.specs.Starting.{AnotherLine, Begins, Listening, NoFirstLine, NotStarted, Silent, SilentFault}
use Rattle.vd_host_children.specs.Told.{AreHosts, AreNext, IsHost, TellsEach}
use Rattle.vd_host_children.specs.declared.fault.ChildrenFault.{ChildrenFault}
use Rattle.vd_host_children.specs.declared.fault.ChildrenFault.TheVariants as fault
use Rattle.vd_host_children.proofs.Asked.{Numbered, all_begun, length_taken, numbered_at, numbered_taken}
use Rattle.vd_host_children.proofs.Told.{drop_one_first, each_told, first_line, later_child, line_told, lines_told, no_line, reads_told, some_same, starts_told}

-- the fault is none of a child's own
abbrev pub IsOutside : ChildrenFault → Type 0
IsOutside fault.Memory = Unit {0}
IsOutside (fault.Failed host) = Unit {0}
IsOutside (fault.Line host) = ⊥
IsOutside (fault.Status host status) = ⊥

call_outside : (host : HostId) (cause : CallFault) → IsOutside (fault_at host cause)
call_outside host call_fault.Failed = tt
call_outside host call_fault.Memory = tt

-- ---- the children that wait

next_at : (waiting : List Child) (otherwise : Option Child) (children : List Child) (place : ℕ) (child : Child) → AreNext waiting otherwise children → slice_get children place ≡ Some child
    → next_child (drop place waiting) otherwise ≡ Some child
next_at waiting otherwise [] place child next at = absurd (none-some child at)
next_at waiting otherwise (first ∷ children) zero child next at = next.0 ∙ at
next_at waiting otherwise (first ∷ children) (suc place) child next at =
    ap (λ (l : List Child). next_child l otherwise) (sym (drop_one_first place waiting)) ∙ next_at (drop 1 waiting) otherwise children place child next.1 at

same_next : (waiting : List Child) (otherwise : Option Child) (xs ys : List Child) → AreNext waiting otherwise xs → AreNext waiting otherwise ys → length xs ≡ length ys → xs ≡ ys
same_next waiting otherwise [] [] nx ny same = refl
same_next waiting otherwise [] (y ∷ ys) nx ny same = absurd (omega (arith, same))
same_next waiting otherwise (x ∷ xs) [] nx ny same = absurd (omega (arith, same))
same_next waiting otherwise (x ∷ xs) (y ∷ ys) nx ny same =
    let first : x ≡ y = some_same x y (sym nx.0 ∙ ny.0) in
    let rest : xs ≡ ys = same_next (drop 1 waiting) otherwise xs ys nx.1 ny.1 (omega (arith, same)) in
    λ i. first i ∷ rest i

-- a host among the children
record HostAt (child : Child) : Type 0 where
  words : List ℕ
  is : IsHost words child

host_at : (printed : List (List ℕ)) (children : List Child) (place : ℕ) (child : Child) → AreHosts printed children → slice_get children place ≡ Some child → HostAt child
host_at [] [] place child hosts at = absurd (none-some child at)
host_at [] (first ∷ children) place child hosts at = absurd hosts
host_at (words ∷ printed) [] place child hosts at = absurd hosts
host_at (words ∷ printed) (first ∷ children) zero child hosts at = record { words = words; is = subst (λ (c : Child). IsHost words c) (some_same first child at) hosts.0 }
host_at (words ∷ printed) (first ∷ children) (suc place) child hosts at = host_at printed children place child hosts.1 at

record ItemAt {X : Type 0} (xs : List X) (place : ℕ) : Type 0 where
  item : X
  is : slice_get xs place ≡ Some item

item_at : {X : Type 0} (xs : List X) (place : ℕ) → place < length xs → ItemAt xs place
item_at [] place less = absurd (omega (arith, less))
item_at (x ∷ xs) zero less = record { item = x; is = refl }
item_at (x ∷ xs) (suc place) less = let rest = item_at xs place (omega (arith, less)) in record { item = rest.item; is = rest.is }

-- ---- how a host's child begins

not_listening : (line : List ℕ) → line ≡ listening → bytes_eq line listening ≡ false → ⊥
not_listening line is other = let e : true ≡ false = subst (λ (l : List ℕ). bytes_eq l listening ≡ false) is other in cc e

begins_well : (program : List ℕ) (words : List (List ℕ)) (host : HostId) (before now : SpawnerView) (child : Child) {result : Result ℕ ChildrenFault} → Begins program words host before now result
    → IsTrue before.told → length before.children ≡ before.given → next_child before.waiting before.otherwise ≡ Some child → slice_get child.lines 0 ≡ Some listening → IfErr result IsOutside
begins_well program words host before now child (Listening number started s l) told each next listens = tt
begins_well program words host before now child (NotStarted cause s) told each next listens = call_outside host cause
begins_well program words host before now child (NoFirstLine number started cause s l) told each next listens = call_outside host cause
begins_well program words host before now child (AnotherLine number started line s l other) told each next listens =
    let n : StartsNext before started = s.starts told in
    let same : n.child ≡ child = some_same n.child child (sym n.next ∙ next) in
    let t = line_told number started now (Some line) before.children n.child [] l (s.still_told told) n.children (s.number.0 ∙ sym each) in
    let both : Some line ≡ Some listening = sym t.line ∙ ap (λ (c : Child). slice_get c.lines 0) same ∙ listens in
    absurd (not_listening line (cc both) other)
begins_well program words host before now child (Silent number started over s l e) told each next listens =
    let n : StartsNext before started = s.starts told in
    let same : n.child ≡ child = some_same n.child child (sym n.next ∙ next) in
    let t = line_told number started over None before.children n.child [] l (s.still_told told) n.children (s.number.0 ∙ sym each) in
    absurd (none-some listening (sym t.line ∙ ap (λ (c : Child). slice_get c.lines 0) same ∙ listens))
begins_well program words host before now child (SilentFault number started over cause s l e) told each next listens =
    let n : StartsNext before started = s.starts told in
    let same : n.child ≡ child = some_same n.child child (sym n.next ∙ next) in
    let t = line_told number started over None before.children n.child [] l (s.still_told told) n.children (s.number.0 ∙ sym each) in
    absurd (none-some listening (sym t.line ∙ ap (λ (c : Child). slice_get c.lines 0) same ∙ listens))

-- ---- the lines of a host

-- each of these lines is a number
abbrev AreNumbers : List (List ℕ) → Type 0
AreNumbers [] = Unit {0}
AreNumbers (line ∷ lines) = (number_of line ≡ None → ⊥) × AreNumbers lines

are_numbers : (lines : List (List ℕ)) (words : List ℕ) → map number_of lines ≡ map Some words → AreNumbers lines
are_numbers [] words same = tt
are_numbers (line ∷ lines) [] same = absurd (cc same)
are_numbers (line ∷ lines) (word ∷ words) same =
    let first : number_of line ≡ Some word = cc same in
    let rest : map number_of lines ≡ map Some words = cc same in
    (λ none. none-some word (sym none ∙ first), are_numbers lines words rest)

count_of : (lines : List (List ℕ)) (words : List ℕ) → map number_of lines ≡ map Some words → length lines ≡ length words
count_of lines words same = sym (length-map lines number_of) ∙ ap (λ (l : List (Option ℕ)). length l) same ∙ length-map words Some

ended_is_none : number_of ended ≡ None
ended_is_none = refl

-- `ended` is no number
no_end : (taken numbers : List (List ℕ)) → AreNumbers taken → taken ≡ numbers ++ ended ∷ [] → ⊥
no_end [] [] are same = cc same
no_end [] (number ∷ numbers) are same = cc same
no_end (line ∷ taken) [] are same = let is : line ≡ ended = cc same in are.0 (ap number_of is ∙ ended_is_none)
no_end (line ∷ taken) (number ∷ numbers) are same = let rest : taken ≡ numbers ++ ended ∷ [] = cc same in no_end taken numbers are.1 rest

-- no line comes behind it
end_once : (taken numbers : List (List ℕ)) (line : List ℕ) (rest : List (List ℕ)) → AreNumbers numbers → (taken ++ ended ∷ []) ++ line ∷ rest ≡ numbers ++ ended ∷ [] → ⊥
end_once [] [] line rest are same = let none : line ∷ rest ≡ [] = cc same in cc none
end_once [] (number ∷ numbers) line rest are same = let is : ended ≡ number = cc same in are.0 (ap number_of (sym is) ∙ ended_is_none)
end_once (first ∷ []) [] line rest are same = let none : ended ∷ line ∷ rest ≡ [] = cc same in cc none
end_once (first ∷ second ∷ taken) [] line rest are same = let none : second ∷ ((taken ++ ended ∷ []) ++ line ∷ rest) ≡ [] = cc same in cc none
end_once (first ∷ taken) (number ∷ numbers) line rest are same = let more : (taken ++ ended ∷ []) ++ line ∷ rest ≡ numbers ++ ended ∷ [] = cc same in end_once taken numbers line rest are.1 more

-- the next line is `ended`, or a number of which there is one more
abbrev IsNextLine : List (List ℕ) → List (List ℕ) → List ℕ → Type 0
IsNextLine taken numbers line = (line ≡ ended) ⊎ ((number_of line ≡ None → ⊥) × (length taken < length numbers))

next_more : (first number : List ℕ) (taken numbers : List (List ℕ)) (line : List ℕ) → IsNextLine taken numbers line → IsNextLine (first ∷ taken) (number ∷ numbers) line
next_more first number taken numbers line (inl is) = inl is
next_more first number taken numbers line (inr p) = let less = p.1 in inr (p.0, omega (arith, less))

next_line : (taken numbers : List (List ℕ)) (line : List ℕ) (rest : List (List ℕ)) → AreNumbers taken → AreNumbers numbers → taken ++ line ∷ rest ≡ numbers ++ ended ∷ [] → IsNextLine taken numbers line
next_line [] [] line rest some are same = inl (cc same)
next_line [] (number ∷ numbers) line rest some are same = let is : number ≡ line = cc same in inr (subst (λ (l : List ℕ). number_of l ≡ None → ⊥) is are.0, omega arith)
next_line (first ∷ taken) [] line rest some are same = let is : first ≡ ended = cc same in absurd (some.0 (ap number_of is ∙ ended_is_none))
next_line (first ∷ taken) (number ∷ numbers) line rest some are same =
    let more : taken ++ line ∷ rest ≡ numbers ++ ended ∷ [] = cc same in next_more first number taken numbers line (next_line taken numbers line rest some.1 are.1 more)

-- a line of a host breaks nothing
not_broken : (taken numbers : List (List ℕ)) (words printed : List ℕ) (line : List ℕ) → IsNextLine taken numbers line → length taken ≡ length words → length numbers ≡ length printed → length printed ≤ most_words
    → Breaks words false line → ⊥
not_broken taken numbers words printed line (inl is) counted all few breaks = let e : true ≡ false = subst (λ (l : List ℕ). bytes_eq l ended ≡ false) is breaks.0 in cc e
not_broken taken numbers words printed line (inr p) counted all few breaks = broken breaks.1
  where
    broken : (number_of line ≡ None) ⊎ (most_words ≤ length words) → ⊥
    broken (inl none) = p.0 none
    broken (inr many) = let less = p.1 in omega (arith, less, counted, all, few, many)

not_wrong : (over : Bool) (given numbers : List (List ℕ)) (words printed : List ℕ) (line : List ℕ) (rest : List (List ℕ)) → ArePrinted given words over → given ++ line ∷ rest ≡ numbers ++ ended ∷ []
    → map number_of numbers ≡ map Some printed → length printed ≤ most_words → Breaks words over line → ⊥
not_wrong true given numbers words printed line rest form same are few breaks =
    end_once form.numbers numbers line rest (are_numbers numbers printed are) (ap (λ (l : List (List ℕ)). l ++ line ∷ rest) (sym form.lines_are) ∙ same)
not_wrong false given numbers words printed line rest form same are few breaks =
    let is : form.numbers ++ line ∷ rest ≡ numbers ++ ended ∷ [] = ap (λ (l : List (List ℕ)). l ++ line ∷ rest) (sym (form.lines_are ∙ append-nil form.numbers)) ∙ same in
    not_broken form.numbers numbers words printed line (next_line form.numbers numbers line rest (are_numbers form.numbers words form.words_are) (are_numbers numbers printed are) is)
    (count_of form.numbers words form.words_are) (count_of numbers printed are) few breaks

-- ---- how a host's child is read

-- what is left of a host's child behind its first line
pub record IsRest (child : Child) : Type 0 where
  printed : List ℕ
  numbers : List (List ℕ)
  lines_are : child.lines ≡ numbers ++ ended ∷ []
  words_are : map number_of numbers ≡ map Some printed
  few : length printed ≤ most_words
  ends_well : child.status ≡ 0

rest_of : (child : Child) → HostAt child → IsRest (later_child child)
rest_of child h = record {
  printed = h.words;
  numbers = h.is.numbers;
  lines_are = ap (λ (l : List (List ℕ)). drop 1 l) h.is.lines_are;
  words_are = h.is.words_are;
  few = h.is.few;
  ends_well = h.is.ends_well;
}

ends_well : (number : ℕ) (host : HostId) (before now : SpawnerView) (child : Child) {result : Result (Unit {0}) ChildrenFault} → Ends number host before now result → IsTrue before.told
    → slice_get before.children number ≡ Some child → child.status ≡ 0 → IfErr result IsOutside
ends_well number host before now child (Well f) told held well = tt
ends_well number host before now child (WithStatus status other f) told held well =
    let g : GivesStatus number before status = f.gives told in
    let same : g.child ≡ child = some_same g.child child (sym g.at_number ∙ held) in
    absurd (other (sym g.ends_with ∙ ap (λ (c : Child). c.status) same ∙ well))
ends_well number host before now child (Unfinished cause f) told held well = call_outside host cause

at_seam : {X : Type 0} (xs : List X) (y : X) (ys : List X) → slice_get (xs ++ y ∷ ys) (length xs) ≡ Some y
at_seam [] y ys = refl
at_seam (x ∷ xs) y ys = at_seam xs y ys

reads_well : (number : ℕ) (host : HostId) (start end : SpawnerView) (front : List Child) (child : Child) (back : List Child) {result : Result (List ℕ) ChildrenFault} → Reads number host start end result
    → IsTrue start.told → start.children ≡ front ++ child ∷ back → number ≡ length front → IsRest child → IfErr result IsOutside
reads_well number host start end front child back (Whole words now over p r e) told are is rest = tt
reads_well number host start end front child back (TooShort words now over p r e) told are is rest =
    let all = lines_told number start now front child back p.gives told are is in
    let last = line_told number now over None front (record child { lines = all.rest }) back r all.told all.children is in
    let none : all.rest ≡ [] = no_line all.rest last.line in
    let lines : child.lines ≡ p.lines = all.lines_are ∙ ap (λ (l : List (List ℕ)). p.lines ++ l) none ∙ append-nil p.lines in
    absurd (no_end p.form.numbers rest.numbers (are_numbers p.form.numbers words p.form.words_are) (sym (append-nil p.form.numbers) ∙ sym p.form.lines_are ∙ sym lines ∙ rest.lines_are))
reads_well number host start end front child back (NotFinished words finished now over cause p r e) told are is rest =
    let all = lines_told number start now front child back p.gives told are is in
    let last = line_told number now over None front (record child { lines = all.rest }) back r all.told all.children is in
    let left : Child = later_child (record child { lines = all.rest }) in
    let held : slice_get over.children number ≡ Some left =
    ap (λ (l : List Child). slice_get l number) last.children ∙ ap (λ (n : ℕ). slice_get (front ++ left ∷ back) n) is ∙ at_seam front left back in
    ends_well number host over end left e last.told held rest.ends_well
reads_well number host start end front child back (NotRead words finished now cause p r) told are is rest = call_outside host cause
reads_well number host start end front child back (WrongLine words finished now line p r breaks) told are is rest =
    let all = lines_told number start now front child back p.gives told are is in
    let last = line_told number now end (Some line) front (record child { lines = all.rest }) back r all.told all.children is in
    let next : all.rest ≡ line ∷ drop 1 all.rest = first_line all.rest line last.line in
    absurd (not_wrong finished p.lines rest.numbers words rest.printed line (drop 1 all.rest) p.form
    (ap (λ (l : List (List ℕ)). p.lines ++ l) (sym next) ∙ sym all.lines_are ∙ rest.lines_are) rest.words_are rest.few breaks)
reads_well number host start end front child back (NoRoom words finished now line p r) told are is rest = tt

-- ---- the whole run

split_at : {X : Type 0} (xs : List X) (place : ℕ) (x : X) → slice_get xs place ≡ Some x → xs ≡ take place xs ++ x ∷ drop (suc place) xs
split_at [] place x at = absurd (none-some x at)
split_at (first ∷ xs) zero x at = let e : first ≡ x = cc in ap (λ y. y ∷ xs) e
split_at (first ∷ xs) (suc place) x at = ap (λ l. first ∷ l) (split_at xs place x at)

mapped_at : (children : List Child) (place : ℕ) (child : Child) → slice_get children place ≡ Some child → slice_get (map later_child children) place ≡ Some (later_child child)
mapped_at [] place child at = absurd (none-some child at)
mapped_at (first ∷ children) zero child at = ap (λ (c : Child). Some (later_child c)) (some_same first child at)
mapped_at (first ∷ children) (suc place) child at = mapped_at children place child at

module _ (program : List ℕ) (hosts : List (List (List ℕ))) (start : SpawnerView) (children : List Child) (printed : List (List ℕ)) where
  -- these children wait, one for each host, and are hosts
  pub record HostsAreNext : Type 0 where
    pub tells : TellsEach start
    pub all : length children ≡ length hosts
    pub next : AreNext start.waiting start.otherwise children
    pub are_hosts : AreHosts printed children

  start_well : (end : SpawnerView) {cause : ChildrenFault} → StopsAtStart program hosts start end cause → HostsAreNext → IsOutside cause
  start_well end (NotBegun numbers words now cause s at b) w =
      let begun = all_begun program start now s w.tells.told in
      let t = starts_told program start now s w.tells in
      let place : length t.children ≡ length numbers = t.count ∙ length_taken hosts (length numbers) words at in
      let less : length numbers < length hosts = slice_get_within hosts (length numbers) words at in
      let all = w.all in
      let item = item_at children (length numbers) (omega (arith, less, all)) in
      let waits : now.waiting ≡ drop (length numbers) start.waiting = t.waiting ∙ ap (λ (n : ℕ). drop n start.waiting) place in
      let next : next_child now.waiting now.otherwise ≡ Some item.item =
      (λ i. next_child (waits i) (t.otherwise i)) ∙ next_at start.waiting start.otherwise children (length numbers) item.item w.next item.is in
      let host = host_at printed children (length numbers) item.item w.are_hosts item.is in
      begins_well program words _ now end item.item b begun.adds.told (each_told program start now (take (length numbers) hosts) numbers w.tells.each begun t) next
      (ap (λ (l : List (List ℕ)). slice_get l 0) host.is.lines_are)
  start_well end (NoNumber numbers words child now s at b) w = tt

  read_well : (numbers : List ℕ) (now end : SpawnerView) {cause : ChildrenFault} → Started program start hosts numbers now → StopsAtRead numbers now end cause → HostsAreNext → IsOutside cause
  read_well numbers now end s (NotReadWell done number mid cause r at b) w =
      let begun = all_begun program start now s w.tells.told in
      let t = starts_told program start now s w.tells in
      let same : t.children ≡ children = same_next start.waiting start.otherwise t.children children t.next w.next (t.count ∙ sym w.all) in
      let place : ℕ = length done in
      let later : List Child = map later_child t.children in
      let numbered : Numbered (length start.children) numbers = subst (λ (n : ℕ). Numbered n numbers) (sym w.tells.each) begun.numbered in
      let less : place < length numbers = slice_get_within numbers place number at in
      let mapped : length later ≡ length t.children = length-map t.children later_child in
      let counted = begun.count in
      let told_count = t.count in
      let within : place < length t.children = omega (arith, less, counted, told_count) in
      let item = item_at t.children place within in
      let host = host_at printed children place item.item w.are_hosts (ap (λ (l : List Child). slice_get l place) (sym same) ∙ item.is) in
      let taken : length (take place later) ≡ place = length-take-le place later (omega (arith, within, mapped)) in
      let split : later ≡ take place later ++ later_child item.item ∷ drop (suc place) later = split_at later place (later_child item.item) (mapped_at t.children place item.item item.is) in
      let are : now.children ≡ (start.children ++ take place later) ++ later_child item.item ∷ drop (suc place) later =
      t.are ∙ ap (λ (l : List Child). start.children ++ l) split ∙ sym (append_assoc start.children (take place later) (later_child item.item ∷ drop (suc place) later)) in
      let read = reads_told now mid start.children (take place later) (later_child item.item ∷ drop (suc place) later) r begun.adds.told (numbered_taken (length start.children) numbers place numbered)
      (taken ∙ sym (length_taken numbers place number at)) are in
      let number_is : number ≡ length start.children + place = numbered_at (length start.children) numbers place number numbered at in
      let done_is : length (start.children ++ read.done) ≡ length start.children + length read.done = length-append start.children read.done in
      let count = read.count in
      reads_well number _ mid end (start.children ++ read.done) (later_child item.item) (drop (suc place) later) b read.told read.are (omega (arith, number_is, done_is, count, taken)) (rest_of item.item host)
  read_well numbers now end s (NoPlace done number words mid r at b) w = tt

  pub run_well : (end : SpawnerView) {result : Result (List (List ℕ)) ChildrenFault} → RunsChildren program hosts start end result → HostsAreNext → IfErr result IsOutside
  run_well end (AllEnded numbers words now s r) w = tt
  run_well end (NotAllStarted cause s) w = start_well end s w
  run_well end (NotAllRead numbers now cause s r) w = read_well numbers now end s r w
