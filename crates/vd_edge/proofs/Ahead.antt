-- What files that were read ahead tell.
use Rattle.std.proofs.Common.{◌≡◌, true≢false, ℕ, Bool, true, false, ◌&&◌, ◌||◌, List, [], ◌∷◌, ◌++◌, Option, Ok, Err, Result, IfOk, IsErrOf, IsTrue, refl, sym, ◌∙◌, subst}
use Rattle.std.specs.Str.{bytes_eq}
use Rattle.std.proofs.lemmas.Bool.{cond-false, false_from_ne_true}
use Rattle.std.proofs.lemmas.Slice.Eq.{bytes_eq-Decides}
use Rattle.vd_outside.specs.Files.{Contents, fetched}
use Rattle.vd_outside.specs.declared.faults.FetchFault.{FetchFault}
use Rattle.vd_outside.specs.declared.faults.FetchFault.TheVariants as fetch_fault
use Rattle.vd_outside.specs.declared.files.FilesCall.{FilesCall}
use Rattle.vd_outside.specs.declared.files.FilesCall.TheVariants.{Fetch, Store}
use Rattle.vd_edge.specs.KeptFiles.{AreHeldOf, IsHeldOf, after_stores, stores_at, were_asked}
use Rattle.vd_edge.specs.declared.kept.Kept.{Kept}

both : (a b : Bool) → (a && b) ≡ true → (a ≡ true) × (b ≡ true)
both true b is = (refl, is)
both false b is = absurd (cc is)

joined : (a b : Bool) → a ≡ true → b ≡ true → (a && b) ≡ true
joined true b first second = second
joined false b first second = absurd (cc first)

or_more : (a b c : Bool) → (b ≡ true → c ≡ true) → (a || b) ≡ true → (a || c) ≡ true
or_more true b c more is = refl
or_more false b c more is = more is

or_right : (a b : Bool) → b ≡ true → (a || b) ≡ true
or_right true b is = refl
or_right false b is = is

or_left : (a b : Bool) → a ≡ true → (a || b) ≡ true
or_left true b is = refl
or_left false b is = absurd (cc is)

-- a name at which nothing was stored holds what was read there
not_stored : (calls : List FilesCall) (stores : List (List ℕ × Option (List ℕ))) (contents : Contents) (name : List ℕ)
    → stores_at name calls ≡ false → IsTrue (were_asked calls stores) → after_stores stores contents name ≡ contents name
not_stored calls [] contents name none asked = refl
not_stored calls (store ∷ stores) contents name none asked =
    let parts = both (stores_at store.0 calls) (were_asked calls stores) asked in
    let other : bytes_eq store.0 name ≡ false = false_from_ne_true (bytes_eq store.0 name) (λ e.
    true≢false (sym (subst (λ n. stores_at n calls ≡ true) ((bytes_eq-Decides store.0 name).0 e) parts.0) ∙ none)) in
    cond-false (bytes_eq store.0 name) store.1 (after_stores stores contents name) other ∙ not_stored calls stores contents name none parts.1

-- so what answers a fetch of what was read answers a fetch there
pub gives_kept : (calls : List FilesCall) (stores : List (List ℕ × Option (List ℕ))) (contents : Contents) (name : List ℕ) (limit : ℕ) (result : Result (List ℕ) FetchFault)
    → stores_at name calls ≡ false → IsTrue (were_asked calls stores) → IfOk result (λ bytes. fetched (contents name) limit ≡ Ok bytes)
    → IfOk result (λ bytes. fetched (after_stores stores contents name) limit ≡ Ok bytes)
gives_kept calls stores contents name limit result none asked gives =
    subst (λ (o : Option (List ℕ)). IfOk result (λ bytes. fetched o limit ≡ Ok bytes)) (sym (not_stored calls stores contents name none asked)) gives

pub too_long_kept : (calls : List FilesCall) (stores : List (List ℕ × Option (List ℕ))) (contents : Contents) (name : List ℕ) (limit : ℕ) (result : Result (List ℕ) FetchFault)
    → stores_at name calls ≡ false → IsTrue (were_asked calls stores) → (IsErrOf result fetch_fault.TooLong → fetched (contents name) limit ≡ Err fetch_fault.TooLong)
    → IsErrOf result fetch_fault.TooLong → fetched (after_stores stores contents name) limit ≡ Err fetch_fault.TooLong
too_long_kept calls stores contents name limit result none asked gives is =
    subst (λ (o : Option (List ℕ)). fetched o limit ≡ Err fetch_fault.TooLong) (sym (not_stored calls stores contents name none asked)) (gives is)

stores_more : (name : List ℕ) (calls : List FilesCall) (call : FilesCall) → stores_at name calls ≡ true → stores_at name (calls ++ call ∷ []) ≡ true
stores_more name [] call is = absurd (cc is)
stores_more name (Fetch other ∷ calls) call is = stores_more name calls call is
stores_more name (Store other ∷ calls) call is =
    or_more (bytes_eq other name) (stores_at name calls) (stores_at name (calls ++ call ∷ [])) (stores_more name calls call) is

stores_last : (name : List ℕ) (calls : List FilesCall) → stores_at name (calls ++ Store name ∷ []) ≡ true
stores_last name [] = or_left (bytes_eq name name) false ((bytes_eq-Decides name name).1 refl)
stores_last name (Fetch other ∷ calls) = stores_last name calls
stores_last name (Store other ∷ calls) = or_right (bytes_eq other name) (stores_at name (calls ++ Store name ∷ [])) (stores_last name calls)

-- stores that were asked stay so where one more call is asked
pub asked_more : (calls : List FilesCall) (call : FilesCall) (stores : List (List ℕ × Option (List ℕ))) → IsTrue (were_asked calls stores) → IsTrue (were_asked (calls ++ call ∷ []) stores)
asked_more calls call [] is = refl
asked_more calls call (store ∷ stores) is =
    let parts = both (stores_at store.0 calls) (were_asked calls stores) is in
    joined (stores_at store.0 (calls ++ call ∷ [])) (were_asked (calls ++ call ∷ []) stores) (stores_more store.0 calls call parts.0) (asked_more calls call stores parts.1)

-- and so does one that is asked
pub asked_store : (calls : List FilesCall) (name : List ℕ) (came : Option (List ℕ)) (stores : List (List ℕ × Option (List ℕ))) → IsTrue (were_asked calls stores)
    → IsTrue (were_asked (calls ++ Store name ∷ []) ((name, came) ∷ stores))
asked_store calls name came stores is =
    joined (stores_at name (calls ++ Store name ∷ [])) (were_asked (calls ++ Store name ∷ []) stores) (stores_last name calls) (asked_more calls (Store name) stores is)

-- one more file is as it is held
pub held_more : (tells : Bool) (files : List Kept) (file : Kept) (holds : Contents) → AreHeldOf tells files holds → IsHeldOf tells file.held (holds file.name)
    → AreHeldOf tells (files ++ file ∷ []) holds
held_more tells [] file holds are is = (is, tt)
held_more tells (first ∷ files) file holds are is = (are.0, held_more tells files file holds are.1 is)

-- so it is in the words of a store
pub asked_by : (calls now : List FilesCall) (call_name name noted : List ℕ) (came : Option (List ℕ)) (stores pairs : List (List ℕ × Option (List ℕ))) → now ≡ calls ++ Store call_name ∷ [] → call_name ≡ name
    → pairs ≡ (noted, came) ∷ stores → noted ≡ name → IsTrue (were_asked calls stores) → IsTrue (were_asked now pairs)
asked_by calls now call_name name noted came stores pairs more called noted_is named is =
    subst (λ (p : List (List ℕ × Option (List ℕ))). IsTrue (were_asked now p)) (sym noted_is)
    (subst (λ (k : List FilesCall). IsTrue (were_asked k ((noted, came) ∷ stores))) (sym more)
    (subst (λ (n : List ℕ). IsTrue (were_asked (calls ++ Store n ∷ []) ((noted, came) ∷ stores))) (named ∙ sym called) (asked_store calls noted came stores is)))
