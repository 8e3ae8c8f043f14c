-- What stands on the disk after stores.
use Rattle.std.proofs.Common.{◌≡◌, true≢false, ℕ, ◌+◌, ◌≤◌, ◌<◌, Bool, true, false, nat_eq, nat_lt, ◌&&◌, ◌||◌, List, [], ◌∷◌, ◌++◌, codes, length, replicate, Option, Some, None, Ok, Err, Result, IfOk, OnOk, IsErrOf, IsTrue, if◌then◌else◌, ◌⊎◌, inl, inr, refl, sym, ◌∙◌, ap, subst, arith}
use Rattle.std.specs.Str.{bytes_eq}
use Rattle.std.specs.Fmt.{decimal}
use Rattle.std.specs.List.{starts_with}
use Rattle.std.proofs.lemmas.Bool.{cond-false, cond-true, lt-ltb, ltb-false, ltb-true}
use Rattle.std.proofs.lemmas.List.{append_assoc, length-replicate, take_at}
use Rattle.std.proofs.lemmas.Slice.Eq.{bytes_eq-Decides}
use Rattle.vd_outside.specs.Files.{Contents, fetched, with_content}
use Rattle.vd_outside.specs.declared.files.FilesCall.{FilesCall}
use Rattle.vd_outside.specs.declared.faults.FetchFault.{FetchFault}
use Rattle.vd_outside.specs.declared.faults.FetchFault.TheVariants as fetch_fault
use Rattle.vd_edge.specs.KeptFiles.{AreFailed, AreHeldOf, IsHeldOf, StandAlone, StandWhole, after_stores, are_held_at, as_read, content, is_held_at, is_open, is_open_by, is_unanswered, is_unknown, kept_view, stood}
use Rattle.vd_edge.specs.Store.{IsBeside, MayLeave, Same, SameElse, beside}
use Rattle.vd_edge.specs.declared.kept.Held.{Held}
use Rattle.vd_edge.specs.declared.kept.Held.TheVariants.{Whole, Longer}
use Rattle.vd_edge.specs.declared.kept.Kept.{Kept}
use Rattle.vd_edge.specs.declared.kept.Unread.{Unread}

-- ---- what was read is what stood there

held_at : (held : Held) (all : Option (List ℕ)) → IsHeldOf true held all → is_held_at held all ≡ true
held_at held None is = absurd (true≢false is)
held_at (Whole bytes) (Some all) is = (bytes_eq-Decides bytes all).1 is
held_at (Longer most) (Some all) is = lt-ltb most (length all) is

pub are_at : (tells : Bool) (files : List Kept) (holds : Contents) → AreHeldOf tells files holds → IsTrue tells → IsTrue (are_held_at files holds)
are_at true [] holds are is = refl
are_at true (file ∷ files) holds are is =
    let first = held_at file.held (holds file.name) are.0 in
    subst (λ (b : Bool). (b && are_held_at files holds) ≡ true) (sym first) (are_at true files holds are.1 refl)
are_at false files holds are is = absurd (cc is)

both : (a b : Bool) → (a && b) ≡ true → (a ≡ true) × (b ≡ true)
both true b is = (refl, is)
both false b is = absurd (cc is)

neither : (a b : Bool) → (a || b) ≡ false → (a ≡ false) × (b ≡ false)
neither true b is = absurd (cc is)
neither false b is = (refl, is)

-- a fetch that what was read answers is answered as by what stands there
as_content : (held : Held) (all : Option (List ℕ)) (limit : ℕ) → is_held_at held all ≡ true → is_unknown held limit ≡ false → fetched (Some (content held)) limit ≡ fetched all limit
as_content held None limit is known = absurd (cc is)
as_content (Whole bytes) (Some all) limit is known = ap (λ (b : List ℕ). fetched (Some b) limit) ((bytes_eq-Decides bytes all).0 is)
as_content (Longer most) (Some all) limit is known =
    let short : limit ≤ most = ltb-false most limit known in
    too_long (replicate (most + 1) 0) limit (omega (arith, short, length-replicate {A = ℕ} (most + 1) 0)) ∙ sym (too_long all limit (omega (arith, short, ltb-true most (length all) is)))
  where
    too_long : (bytes : List ℕ) (limit : ℕ) → limit < length bytes → fetched (Some bytes) limit ≡ Err fetch_fault.TooLong
    too_long bytes limit less = cond-true (nat_lt limit (length bytes)) (Err fetch_fault.TooLong) (Ok bytes) (lt-ltb limit (length bytes) less)

first_held : (file : Kept) (files : List Kept) (holds : Contents) (name : List ℕ) (limit : ℕ) → is_held_at file.held (holds file.name) ≡ true
    → (is_unanswered files name limit ≡ false → fetched (as_read files name) limit ≡ fetched (holds name) limit)
    → (same : Bool) → bytes_eq file.name name ≡ same → (if same then is_unknown file.held limit else is_unanswered files name limit) ≡ false
    → fetched (if same then Some (content file.held) else as_read files name) limit ≡ fetched (holds name) limit
first_held file files holds name limit is behind true e known =
    subst (λ n. fetched (Some (content file.held)) limit ≡ fetched (holds n) limit) ((bytes_eq-Decides file.name name).0 e)
    (as_content file.held (holds file.name) limit is known)
first_held file files holds name limit is behind false e known = behind known

as_held : (files : List Kept) (holds : Contents) (name : List ℕ) (limit : ℕ) → are_held_at files holds ≡ true → is_unanswered files name limit ≡ false
    → fetched (as_read files name) limit ≡ fetched (holds name) limit
as_held [] holds name limit are known = absurd (true≢false known)
as_held (file ∷ files) holds name limit are known =
    let parts = both (is_held_at file.held (holds file.name)) (are_held_at files holds) are in
    first_held file files holds name limit parts.0 (as_held files holds name limit parts.1) (bytes_eq file.name name) refl known

pub stood_same : (tells : Bool) (holds : Contents) (files : List Kept) (name : List ℕ) (limit : ℕ) → (IsTrue tells → IsTrue (are_held_at files holds)) → is_unanswered files name limit ≡ false
    → fetched (as_read files name) limit ≡ fetched (stood tells holds files name) limit
stood_same true holds files name limit are known = as_held files holds name limit (are refl) known
stood_same false holds files name limit are known = refl

-- so what answers a fetch of what was read answers it of what stood there
pub stood_gives : (tells : Bool) (holds : Contents) (files : List Kept) (name : List ℕ) (limit : ℕ) (result : Result (List ℕ) FetchFault) → (IsTrue tells → IsTrue (are_held_at files holds))
    → OnOk result (is_unanswered files name limit ≡ false) → IfOk result (λ bytes. fetched (as_read files name) limit ≡ Ok bytes)
    → IfOk result (λ bytes. fetched (stood tells holds files name) limit ≡ Ok bytes)
stood_gives tells holds files name limit (Ok bytes) are known gives = sym (stood_same tells holds files name limit are known) ∙ gives
stood_gives tells holds files name limit (Err fault) are known gives = tt

pub stood_too_long : (tells : Bool) (holds : Contents) (files : List Kept) (name : List ℕ) (limit : ℕ) (result : Result (List ℕ) FetchFault) → (IsTrue tells → IsTrue (are_held_at files holds))
    → (IsErrOf result fetch_fault.TooLong → is_unanswered files name limit ≡ false)
    → (IsErrOf result fetch_fault.TooLong → fetched (as_read files name) limit ≡ Err fetch_fault.TooLong)
    → IsErrOf result fetch_fault.TooLong → fetched (stood tells holds files name) limit ≡ Err fetch_fault.TooLong
stood_too_long tells holds files name limit result are known gives is = sym (stood_same tells holds files name limit are (known is)) ∙ gives is

-- ---- at the beginning

begins : (tells : Bool) (began holds : Contents) (files : List Kept) → began ≡ holds → IsTrue tells → stood tells began files ≡ holds
begins true began holds files same is = same
begins false began holds files same is = absurd (cc is)

pub whole_at_first : (tells : Bool) (began holds : Contents) (files : List Kept) → began ≡ holds → IsTrue tells → StandWhole (stood tells began files) holds
whole_at_first tells began holds files same is name bytes e = sym (ap (λ (c : Contents). c name) (begins tells began holds files same is)) ∙ e

pub alone_at_first : (tells : Bool) (began holds : Contents) (files : List Kept) → began ≡ holds → IsTrue tells → StandAlone [] (stood tells began files) holds
alone_at_first tells began holds files same is name none = sym (ap (λ (c : Contents). c name) (begins tells began holds files same is))

-- ---- after a store

at_name : (name other : List ℕ) (b : Bool) → bytes_eq name other ≡ b → (b ≡ true → name ≡ other)
at_name name other b e is = (bytes_eq-Decides name other).0 (e ∙ is)

-- that was done
pub whole_stored : (name bytes : List ℕ) (told before now : Contents) → StandWhole told before → now name ≡ Some bytes → SameElse name before now
    → StandWhole (with_content told name (Some bytes)) now
whole_stored name bytes told before now whole all others other content e = at (bytes_eq name other) refl e
  where
    at : (same : Bool) → bytes_eq name other ≡ same → (if same then Some bytes else told other) ≡ Some content → now other ≡ Some content
    at true same e = ap now (sym (at_name name other true same refl)) ∙ (all ∙ e)
    at false same e = others other same ∙ whole other content e

pub alone_stored : (stores : List (List ℕ × Option (List ℕ))) (name bytes : List ℕ) (told before now : Contents) → StandAlone stores told before → now name ≡ Some bytes → SameElse name before now
    → StandAlone ((name, Some bytes) ∷ stores) (with_content told name (Some bytes)) now
alone_stored stores name bytes told before now alone all others other none = at (bytes_eq name other) refl
  where
    at : (same : Bool) → bytes_eq name other ≡ same → now other ≡ (if same then Some bytes else told other)
    at true same = ap now (sym (at_name name other true same refl)) ∙ all
    at false same = others other same ∙ alone other none

-- that failed
pub whole_failed : (name : List ℕ) (told before now : Contents) → StandWhole told before → MayLeave name before now → StandWhole (with_content told name None) now
whole_failed name told before now whole left other content e = at (bytes_eq name other) refl e
  where
    from : before other ≡ Some content → (now other ≡ before other) ⊎ ((before other ≡ None) × IsBeside name other) → now other ≡ Some content
    from was (inl same) = same ∙ was
    from was (inr free) = let wrong : Some content ≡ None = sym was ∙ free.0 in absurd (cc wrong)

    at : (same : Bool) → bytes_eq name other ≡ same → (if same then None else told other) ≡ Some content → now other ≡ Some content
    at true same e = absurd (cc e)
    at false same e = from (whole other content e) (left other same)

fronts : (name other : List ℕ) → IsBeside name other → starts_with nat_eq other (name ++ codes ".tmp-") ≡ true
fronts name other (mark, number, is) = subst (λ (n : List ℕ). starts_with nat_eq n (name ++ codes ".tmp-") ≡ true) (sym (is ∙ joined)) front
  where
    rest : List ℕ
    rest = decimal mark ++ (codes "-" ++ decimal number)

    joined : beside name mark number ≡ (name ++ codes ".tmp-") ++ rest
    joined = sym (append_assoc name (codes ".tmp-") rest)

    front : starts_with nat_eq ((name ++ codes ".tmp-") ++ rest) (name ++ codes ".tmp-") ≡ true
    front =
        subst (λ (n : List ℕ). bytes_eq (name ++ codes ".tmp-") n ≡ true) (sym (take_at (name ++ codes ".tmp-") rest (length (name ++ codes ".tmp-")) refl))
        ((bytes_eq-Decides (name ++ codes ".tmp-") (name ++ codes ".tmp-")).1 refl)

pub alone_failed : (stores : List (List ℕ × Option (List ℕ))) (name : List ℕ) (told before now : Contents) → StandAlone stores told before → MayLeave name before now
    → StandAlone ((name, None) ∷ stores) (with_content told name None) now
alone_failed stores name told before now alone left other closed =
    from (left other apart.0) ∙ sym (cond-false (bytes_eq name other) None (told other) apart.0)
  where
    parts : (is_open_by (name, None) other ≡ false) × (is_open stores other ≡ false)
    parts = neither (is_open_by (name, None) other) (is_open stores other) closed

    apart : (bytes_eq name other ≡ false) × (starts_with nat_eq other (name ++ codes ".tmp-") ≡ false)
    apart = neither (bytes_eq name other) (starts_with nat_eq other (name ++ codes ".tmp-")) parts.0

    from : (now other ≡ before other) ⊎ ((before other ≡ None) × IsBeside name other) → now other ≡ told other
    from (inl same) = same ∙ alone other parts.1
    from (inr free) = absurd (true≢false (sym (fronts name other free.1) ∙ apart.1))

-- that was none
pub whole_same : (told before now : Contents) → StandWhole told before → Same before now → StandWhole told now
whole_same told before now whole same name bytes e = same name ∙ whole name bytes e

pub alone_same : (stores : List (List ℕ × Option (List ℕ))) (told before now : Contents) → StandAlone stores told before → Same before now → StandAlone stores told now
alone_same stores told before now alone same name none = same name ∙ alone name none

-- ---- a new file that was removed again
pub removed : (new : List ℕ) (first made filled last : Contents) → first new ≡ None → SameElse new first made → SameElse new made filled → SameElse new filled last → last new ≡ None → Same first last
removed new first made filled last free one two three gone other = at (bytes_eq new other) refl
  where
    at : (same : Bool) → bytes_eq new other ≡ same → last other ≡ first other
    at true same = let e = at_name new other true same refl in subst (λ (n : List ℕ). last n ≡ first n) e (gone ∙ sym free)
    at false same = three other same ∙ (two other same ∙ one other same)

-- ---- in the words of a store

abbrev Pairs : Type 0
Pairs = List (List ℕ × Option (List ℕ))

pub held_still : (tells : Bool) (files : List Kept) (before now : Contents) → now ≡ before → (IsTrue tells → IsTrue (are_held_at files before)) → IsTrue tells → IsTrue (are_held_at files now)
held_still tells files before now same held is = subst (λ (b : Contents). IsTrue (are_held_at files b)) (sym same) (held is)

pub whole_more : (tells : Bool) (files : List Kept) (began_before began : Contents) (pairs_before pairs : Pairs) (name noted : List ℕ) (came : Option (List ℕ)) (now : Contents)
    → began ≡ began_before → pairs ≡ (noted, came) ∷ pairs_before → noted ≡ name
    → StandWhole (with_content (after_stores pairs_before (stood tells began_before files)) name came) now
    → StandWhole (after_stores pairs (stood tells began files)) now
whole_more tells files began_before began pairs_before pairs name noted came now same more named whole =
    subst (λ (p : Pairs). StandWhole (after_stores p (stood tells began files)) now) (sym more)
    (subst (λ (b : Contents). StandWhole (with_content (after_stores pairs_before (stood tells b files)) noted came) now) (sym same)
    (subst (λ (n : List ℕ). StandWhole (with_content (after_stores pairs_before (stood tells began_before files)) n came) now) (sym named) whole))

pub alone_more : (tells : Bool) (files : List Kept) (began_before began : Contents) (pairs_before pairs : Pairs) (name noted : List ℕ) (came : Option (List ℕ)) (now : Contents)
    → began ≡ began_before → pairs ≡ (noted, came) ∷ pairs_before → noted ≡ name
    → StandAlone ((name, came) ∷ pairs_before) (with_content (after_stores pairs_before (stood tells began_before files)) name came) now
    → StandAlone pairs (after_stores pairs (stood tells began files)) now
alone_more tells files began_before began pairs_before pairs name noted came now same more named alone =
    subst (λ (p : Pairs). StandAlone p (after_stores p (stood tells began files)) now) (sym more)
    (subst (λ (b : Contents). StandAlone ((noted, came) ∷ pairs_before) (with_content (after_stores pairs_before (stood tells b files)) noted came) now) (sym same)
    (subst (λ (n : List ℕ). StandAlone ((n, came) ∷ pairs_before) (with_content (after_stores pairs_before (stood tells began_before files)) n came) now) (sym named) alone))

-- ---- in the words of a reading

pub whole_from : (tells : Bool) (files : List Kept) (began holds : Contents) (pairs : Pairs) → pairs ≡ [] → began ≡ holds → IsTrue tells → StandWhole (after_stores pairs (stood tells began files)) holds
whole_from tells files began holds pairs none same is =
    subst (λ (p : Pairs). StandWhole (after_stores p (stood tells began files)) holds) (sym none) (whole_at_first tells began holds files same is)

pub alone_from : (tells : Bool) (files : List Kept) (began holds : Contents) (pairs : Pairs) → pairs ≡ [] → began ≡ holds → IsTrue tells → StandAlone pairs (after_stores pairs (stood tells began files)) holds
alone_from tells files began holds pairs none same is =
    subst (λ (p : Pairs). StandAlone p (after_stores p (stood tells began files)) holds) (sym none) (alone_at_first tells began holds files same is)

pub view_is : (tells : Bool) (files : List Kept) (began holds : Contents) (asked : List FilesCall) (pairs : Pairs) → began ≡ holds → asked ≡ [] → pairs ≡ []
    → kept_view tells began files asked pairs 0 ≡ kept_view tells holds files [] [] 0
view_is tells files began holds asked pairs same none empty =
    ap (λ (b : Contents). kept_view tells b files asked pairs 0) same ∙ (ap (λ (calls : List FilesCall). kept_view tells holds files calls pairs 0) none
    ∙ ap (λ (p : Pairs). kept_view tells holds files [] p 0) empty)

pub failed_there : (before now : List ℕ → Type 0) (files : List Unread) → ((name : List ℕ) → now name → before name) → AreFailed now files → AreFailed before files
failed_there before now [] all are = tt
failed_there before now (file ∷ files) all are = (all file.name are.0, failed_there before now files all are.1)
