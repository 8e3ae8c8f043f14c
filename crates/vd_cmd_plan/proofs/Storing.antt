-- One store after others.
use Rattle.std.proofs.Common.{◌≡◌, inr, ℕ, false, List, [], ◌∷◌, ◌++◌, length, take, drop, get_or, ◌+◌, ◌<◌, Some, Ok, Err, IsTrue, refl, sym, ◌∙◌, ap, subst, append_assoc, arith}
use Rattle.std.proofs.lemmas.List.{take-append-drop}
use Rattle.std.proofs.lemmas.Grind.{take_at_read}
use Rattle.std.specs.Str.{bytes_eq}
use Rattle.vd_outside.specs.Files.{FilesView, Contents, with_content}
use Rattle.vd_outside.specs.declared.files.FilesCall.{FilesCall}
use Rattle.vd_outside.specs.declared.files.FilesCall.TheVariants.{Store}
use Rattle.vd_cmd_plan.specs.declared.status.Status.{Status}
use Rattle.vd_cmd_plan.specs.declared.status.Status.TheVariants.{Memory, WriteFault}
use Rattle.vd_outside.specs.declared.stored.Stored.{Stored}
use Rattle.vd_cmd_plan.specs.Plans.{GrowsWithin}
use Rattle.vd_cmd_plan.proofs.Fronts.{front_within, all_within, later_within}
use Rattle.vd_cmd_plan.specs.Deliver.{StoresOne, StoresAll, stored, store_calls, IsOpenAt}

store_calls-append : (xs ys : List Stored) → store_calls (xs ++ ys) ≡ store_calls xs ++ store_calls ys
store_calls-append [] ys = refl
store_calls-append (x ∷ xs) ys = ap (λ (l : List FilesCall). Store x.name ∷ l) (store_calls-append xs ys)

stored-append : (xs ys : List Stored) (files : Contents) → stored (xs ++ ys) files ≡ stored ys (stored xs files)
stored-append [] ys files = refl
stored-append (x ∷ xs) ys files = stored-append xs ys (with_content files x.name (Some x.content))

take_front : (xs ys : List Stored) → take (length xs) (xs ++ ys) ≡ xs
take_front [] ys = refl
take_front (x ∷ xs) ys = ap (λ (l : List Stored). x ∷ l) (take_front xs ys)

asked_more : (xs : List Stored) (p : Stored) (zs : List Stored) (before mid : List FilesCall) → mid ≡ before ++ store_calls xs → mid ++ Store p.name ∷ store_calls zs ≡ before ++ store_calls (xs ++ p ∷ zs)
asked_more xs p zs before mid is =
    ap (λ (l : List FilesCall). l ++ Store p.name ∷ store_calls zs) is
    ∙ append_assoc before (store_calls xs) (Store p.name ∷ store_calls zs)
    ∙ ap (λ (l : List FilesCall). before ++ l) (sym (store_calls-append xs (p ∷ zs)))

pub stores_ok : (xs : List Stored) (p : Stored) (before mid now : FilesView) → StoresAll xs before mid (Ok tt) → StoresOne p mid now (Ok tt) → StoresAll (xs ++ p ∷ []) before now (Ok tt)
stores_ok xs p before mid now w g = record {
  later = omega arith;
  ends = tt;
  fault = λ e. absurd (cc e);
  last = λ t e. absurd (cc e);
  still_told = λ t. g.still_told (w.still_told t);
  front = λ t. all_within before.asked now.asked _ (asked t);
  whole = asked;
  contents = λ t. g.contents (w.still_told t) ∙ ap (λ (m : Contents). with_content m p.name (Some p.content)) (w.contents t) ∙ sym (stored-append xs (p ∷ []) before.contents);
  part = λ t. tt;
}
  where
    asked : IsTrue before.told → now.asked ≡ before.asked ++ store_calls (xs ++ p ∷ [])
    asked t = g.asked (w.still_told t) ∙ asked_more xs p [] before.asked mid.asked (w.whole t)

drop_front : (xs ys : List Stored) → drop (length xs) (xs ++ ys) ≡ ys
drop_front [] ys = refl
drop_front (x ∷ xs) ys = drop_front xs ys

same_base : (xs ys : List Stored) (before mid now : Contents) → mid ≡ stored xs before → now ≡ mid → now ≡ stored (take (length xs) (xs ++ ys)) before
same_base xs ys before mid now is same = same ∙ is ∙ ap (λ (l : List Stored). stored l before) (sym (take_front xs ys))

open_base : (xs : List Stored) (p : Stored) (zs : List Stored) (before mid now : Contents) → mid ≡ stored xs before → ((other : List ℕ) → bytes_eq p.name other ≡ false → now other ≡ mid other) → IsOpenAt (drop (length xs) (xs ++ p ∷ zs)) (stored (take (length xs) (xs ++ p ∷ zs)) before) now
open_base xs p zs before mid now is same =
    subst (λ (l : List Stored). IsOpenAt l (stored (take (length xs) (xs ++ p ∷ zs)) before) now) (sym (drop_front xs (p ∷ zs)))
    (λ other apart. same other apart ∙ ap (λ (m : Contents). m other) (is ∙ ap (λ (l : List Stored). stored l before) (sym (take_front xs (p ∷ zs)))))

with_calls : (xs : List Stored) (p : Stored) (zs : List Stored) (before now : List FilesCall) → GrowsWithin before now (store_calls xs ++ store_calls (p ∷ zs)) → GrowsWithin before now (store_calls (xs ++ p ∷ zs))
with_calls xs p zs before now = subst (λ (l : List FilesCall). GrowsWithin before now l) (sym (store_calls-append xs (p ∷ zs)))

pub stores_err : (xs : List Stored) (p : Stored) (zs : List Stored) (before mid now : FilesView) (status : Status) → StoresAll xs before mid (Ok tt) → StoresOne p mid now (Err status) → StoresAll (xs ++ p ∷ zs) before now (Err status)
stores_err xs p zs before mid now Memory w g = record {
  later = omega arith;
  ends = tt;
  fault = λ e. absurd (cc e);
  last = λ t e. absurd (cc e);
  still_told = λ t. g.still_told (w.still_told t);
  front = λ t. with_calls xs p zs before.asked now.asked (front_within before.asked now.asked (store_calls xs) (store_calls (p ∷ zs)) (g.asked (w.still_told t) ∙ w.whole t));
  whole = λ t. tt;
  contents = λ t. tt;
  part = λ t. (length xs, same_base xs (p ∷ zs) before.contents mid.contents now.contents (w.contents t) (g.memory (w.still_told t) refl));
}
stores_err xs p zs before mid now WriteFault w g = record {
  later = omega arith;
  ends = tt;
  fault = λ e. let r = g.fault refl in let l = w.later in omega arith;
  last = λ t e. (p.name, (store_calls xs, g.asked (w.still_told t) ∙ ap (λ (l : List FilesCall). l ++ Store p.name ∷ []) (w.whole t) ∙ append_assoc before.asked (store_calls xs) (Store p.name ∷ [])));
  still_told = λ t. g.still_told (w.still_told t);
  front = λ t. with_calls xs p zs before.asked now.asked (later_within before.asked mid.asked now.asked (store_calls xs) (store_calls (p ∷ zs)) (w.whole t) (front_within mid.asked now.asked (Store p.name ∷ []) (store_calls zs) (g.asked (w.still_told t))));
  whole = λ t. tt;
  contents = λ t. tt;
  part = λ t. (length xs, inr (open_base xs p zs before.contents mid.contents now.contents (w.contents t) (g.others (w.still_told t))));
}
stores_err xs p zs before mid now other w g = absurd g.ends

pub front_at : (pieces : List Stored) (i : ℕ) (p : Stored) → i < length pieces → p ≡ get_or pieces i p → take (i + 1) pieces ≡ take i pieces ++ p ∷ []
front_at pieces i p h is = (take_at_read pieces i p h).1 ∙ ap (λ (x : Stored). take i pieces ++ x ∷ []) (sym is)

pub all_at : (pieces : List Stored) (i : ℕ) (p : Stored) → i < length pieces → p ≡ get_or pieces i p → pieces ≡ take i pieces ++ p ∷ drop (i + 1) pieces
all_at pieces i p h is = sym (take-append-drop (i + 1) pieces) ∙ ap (λ (l : List Stored). l ++ drop (i + 1) pieces) (front_at pieces i p h is) ∙ append_assoc (take i pieces) (p ∷ []) (drop (i + 1) pieces)
