-- Children that are started, read and finished one after the other.
use Rattle.std.proofs.Common.{arith, ◌≡◌, ◌<◌, ◌≤◌, ◌+◌, ℕ, Bool, true, false, List, [], ◌∷◌, ◌++◌, All, length, take, get_or, bytes_eq, slice_get, Option, Some, None, Ok, Err, Result, refl, sym, ap, subst, ◌∙◌}
use Rattle.std.proofs.lemmas.List.{take_more}
use Rattle.std.proofs.lemmas.List.Elements.{All-append, All-cons, All-nil}
use Rattle.std.proofs.lemmas.Option.{slice_get_read}
use Rattle.std.proofs.lemmas.Slice.Eq.{bytes_eq-Decides}
use Rattle.vd_base.specs.HostSets.{host}
use Rattle.vd_base.specs.declared.ids.HostId.{HostId}
use Rattle.vd_outside.specs.Spawner.{SpawnerView, Starts, ReadsLine, Finishes}
use Rattle.vd_host_children.specs.Finishing.{Ends, Well}
use Rattle.vd_host_children.specs.Lines.{listening}
use Rattle.vd_host_children.specs.Reading.{Reads}
use Rattle.vd_host_children.specs.Runs.{AllEnded, NoNumber, NoPlace, NoneRead, NoneStarted, NotAllRead, NotBegun, NotReadWell, OneRead, OneStarted, ReadToEnd, ReadsAll, RunsChildren, Started, StopsAtRead, StopsAtStart}
use Rattle.vd_host_children.specs.Starting.{AnotherLine, Begins, Listening, Silent, SilentFault}
use Rattle.vd_host_children.specs.declared.fault.ChildrenFault.{ChildrenFault}
use Rattle.vd_host_children.specs.declared.fault.ChildrenFault.TheVariants as fault

pub ends_well : (child status : ℕ) (host : HostId) (before now : SpawnerView) → status ≡ 0 → Finishes child before now (Ok status) → Ends child host before now (Ok tt)
ends_well child status host before now is finishes = Well (subst (λ (s : ℕ). Finishes child before now (Ok s)) is finishes)

-- the line of a child that began, as it was answered and as it was read
module _ (program : List ℕ) (words : List (List ℕ)) (host : HostId) (child : ℕ) (before started : SpawnerView) (starts : Starts program words before started (Ok child)) where
  pub begins_well : (now : SpawnerView) (answer : Option (List ℕ)) (line read : List ℕ) (test : Bool) → ReadsLine child started now (Ok answer) → answer ≡ Some line → read ≡ line
      → test ≡ bytes_eq read listening → test ≡ true → Begins program words host before now (Ok child)
  begins_well now answer line read test reads is same tests holds =
      Listening child started starts (subst (λ (o : Option (List ℕ)). ReadsLine child started now (Ok o))
      (is ∙ ap Some (sym same ∙ (bytes_eq-Decides read listening).0 (sym tests ∙ holds))) reads)

  pub begins_otherwise : (now : SpawnerView) (answer : Option (List ℕ)) (line read : List ℕ) (test : Bool) → ReadsLine child started now (Ok answer) → answer ≡ Some line → read ≡ line
      → test ≡ bytes_eq read listening → test ≡ false → Begins program words host before now (Err (fault.Line host))
  begins_otherwise now answer line read test reads is same tests fails =
      AnotherLine child started line starts (subst (λ (o : Option (List ℕ)). ReadsLine child started now (Ok o)) is reads)
      (subst (λ (l : List ℕ). bytes_eq l listening ≡ false) same (sym tests ∙ fails))

  pub begins_silent : (over now : SpawnerView) (answer : Option (List ℕ)) → ReadsLine child started over (Ok answer) → answer ≡ None → Ends child host over now (Ok tt)
      → Begins program words host before now (Err (fault.Line host))
  begins_silent over now answer reads is ends = Silent child started over starts (subst (λ (o : Option (List ℕ)). ReadsLine child started over (Ok o)) is reads) ends

  pub begins_with_fault : (over now : SpawnerView) (answer : Option (List ℕ)) (cause : ChildrenFault) → ReadsLine child started over (Ok answer) → answer ≡ None → Ends child host over now (Err cause)
      → Begins program words host before now (Err cause)
  begins_with_fault over now answer cause reads is ends =
      SilentFault child started over cause starts (subst (λ (o : Option (List ℕ)). ReadsLine child started over (Ok o)) is reads) ends

-- a place that was read
at_place : {X : Type 0} (xs : List X) (place : ℕ) (x : X) → place < length xs → x ≡ get_or xs place x → slice_get xs place ≡ Some x
at_place xs place x less is = slice_get_read xs (length xs) place x refl less is

taken_more : {X : Type 0} (xs : List X) (place : ℕ) (x : X) → place < length xs → x ≡ get_or xs place x → take (place + 1) xs ≡ take place xs ++ x ∷ []
taken_more xs place x less is = take_more xs place x less ∙ ap (λ y. take place xs ++ y ∷ []) (sym is)

pub none_started : (program : List ℕ) (hosts : List (List (List ℕ))) (children : List ℕ) (start : SpawnerView) → children ≡ [] → Started program start (take 0 hosts) children start
none_started program hosts children start empty = subst (λ (l : List ℕ). Started program start [] l start) (sym empty) NoneStarted

pub none_read : (children : List ℕ) (printed : List (List ℕ)) (start : SpawnerView) → printed ≡ [] → ReadToEnd start (take 0 children) printed start
none_read children printed start empty = subst (λ (l : List (List ℕ)). ReadToEnd start [] l start) (sym empty) NoneRead

pub started_more : (program : List ℕ) (hosts : List (List (List ℕ))) (children : List ℕ) (words : List (List ℕ)) (place child : ℕ) (start before now : SpawnerView)
    → place < length hosts → words ≡ get_or hosts place words → length children ≡ place → Started program start (take place hosts) children before
    → Begins program words (host place) before now (Ok child) → Started program start (take (place + 1) hosts) (children ++ child ∷ []) now
started_more program hosts children words place child start before now less is count started begins =
    subst (λ (l : List (List (List ℕ))). Started program start l (children ++ child ∷ []) now) (sym (taken_more hosts place words less is))
    (OneStarted (take place hosts) children words child before now started (subst (λ (n : ℕ). Begins program words (host n) before now (Ok child)) (sym count) begins))

pub not_begun : (program : List ℕ) (hosts : List (List (List ℕ))) (children : List ℕ) (words : List (List ℕ)) (place : ℕ) (start now end : SpawnerView) (cause : ChildrenFault)
    → place < length hosts → words ≡ get_or hosts place words → length children ≡ place → Started program start (take place hosts) children now
    → Begins program words (host place) now end (Err cause) → StopsAtStart program hosts start end cause
not_begun program hosts children words place start now end cause less is count started begins =
    NotBegun children words now cause (subst (λ (n : ℕ). Started program start (take n hosts) children now) (sym count) started)
    (subst (λ (n : ℕ). slice_get hosts n ≡ Some words) (sym count) (at_place hosts place words less is))
    (subst (λ (n : ℕ). Begins program words (host n) now end (Err cause)) (sym count) begins)

pub no_number : (program : List ℕ) (hosts : List (List (List ℕ))) (children : List ℕ) (words : List (List ℕ)) (place child : ℕ) (start now end : SpawnerView)
    → place < length hosts → words ≡ get_or hosts place words → length children ≡ place → Started program start (take place hosts) children now
    → Begins program words (host place) now end (Ok child) → StopsAtStart program hosts start end fault.Memory
no_number program hosts children words place child start now end less is count started begins =
    NoNumber children words child now (subst (λ (n : ℕ). Started program start (take n hosts) children now) (sym count) started)
    (subst (λ (n : ℕ). slice_get hosts n ≡ Some words) (sym count) (at_place hosts place words less is))
    (subst (λ (n : ℕ). Begins program words (host n) now end (Ok child)) (sym count) begins)

pub read_more : (children : List ℕ) (printed : List (List ℕ)) (words : List ℕ) (place child : ℕ) (start before now : SpawnerView)
    → place < length children → child ≡ get_or children place child → length printed ≡ place → ReadToEnd start (take place children) printed before
    → Reads child (host place) before now (Ok words) → ReadToEnd start (take (place + 1) children) (printed ++ words ∷ []) now
read_more children printed words place child start before now less is count read reads =
    subst (λ (l : List ℕ). ReadToEnd start l (printed ++ words ∷ []) now) (sym (taken_more children place child less is))
    (OneRead (take place children) printed child words before now read (subst (λ (n : ℕ). Reads child (host n) before now (Ok words)) (sym count) reads))

pub not_read_well : (children : List ℕ) (printed : List (List ℕ)) (place child : ℕ) (start now end : SpawnerView) (cause : ChildrenFault)
    → place < length children → child ≡ get_or children place child → length printed ≡ place → ReadToEnd start (take place children) printed now
    → Reads child (host place) now end (Err cause) → StopsAtRead children start end cause
not_read_well children printed place child start now end cause less is count read reads =
    NotReadWell printed child now cause (subst (λ (n : ℕ). ReadToEnd start (take n children) printed now) (sym count) read)
    (subst (λ (n : ℕ). slice_get children n ≡ Some child) (sym count) (at_place children place child less is))
    (subst (λ (n : ℕ). Reads child (host n) now end (Err cause)) (sym count) reads)

pub no_place : (children : List ℕ) (printed : List (List ℕ)) (words : List ℕ) (place child : ℕ) (start now end : SpawnerView)
    → place < length children → child ≡ get_or children place child → length printed ≡ place → ReadToEnd start (take place children) printed now
    → Reads child (host place) now end (Ok words) → StopsAtRead children start end fault.Memory
no_place children printed words place child start now end less is count read reads =
    NoPlace printed child words now (subst (λ (n : ℕ). ReadToEnd start (take n children) printed now) (sym count) read)
    (subst (λ (n : ℕ). slice_get children n ≡ Some child) (sym count) (at_place children place child less is))
    (subst (λ (n : ℕ). Reads child (host n) now end (Ok words)) (sym count) reads)

-- one child more is known
pub all_known : (children : List ℕ) (child before now : ℕ) → All (λ each. each < before) children → child < now → before ≤ now → All (λ each. each < now) (children ++ child ∷ [])
all_known children child before now known new later =
    All-append (λ each. each < now) children (child ∷ []) (λ k d less. let h = known k d less in omega (arith, h, later))
    (All-cons (λ each. each < now) child [] new (All-nil (λ each. each < now)))

pub runs : (program : List ℕ) (hosts : List (List (List ℕ))) (children : List ℕ) (start now end : SpawnerView) (result : Result (List (List ℕ)) ChildrenFault)
    → Started program start hosts children now → ReadsAll children now end result → RunsChildren program hosts start end result
runs program hosts children start now end (Ok printed) started read = AllEnded children printed now started read
runs program hosts children start now end (Err cause) started stops = NotAllRead children now cause started stops
