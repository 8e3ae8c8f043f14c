-- In the let-normal form of a resolved source all that is named is declared, and shifts are by at most 31 bits.
use Rattle.std.proofs.Common.{◌≡◌, ℕ, zero, suc, Bool, true, List, [], ◌∷◌, ◌++◌, length, Option, Some, None, refl, ◌∙◌}
use Rattle.std.specs.List.{list_all}
use Rattle.std.proofs.lemmas.List.Sums.{AllPass-from_list_all, list_all-from_AllPass}
use Rattle.std.proofs.lemmas.List.Folds.{list_all-append, list_all-map}
use Rattle.vd_base.specs.declared.ids.SlotId.{SlotId}
use Rattle.vd_base.specs.declared.operations.Op.{Op}
use Rattle.vd_base.specs.declared.operations.Op.TheVariants as op
use Rattle.vd_base.specs.Lexical.{is_name}
use Rattle.vd_core.specs.declared.normal.Right.{Right}
use Rattle.vd_core.specs.declared.normal.Right.TheVariants.{Lit, Turn, Copy, Apply, Input, Declassify, Endorse, Load, Get}
use Rattle.vd_core.specs.declared.normal.Slot.{Slot}
use Rattle.vd_core.specs.declared.normal.Stmt.TheOpen.{Stmt-F}
use Rattle.vd_core.specs.declared.normal.Written.{Written}
use Rattle.vd_core.specs.declared.source.Ident.{Ident}
use Rattle.vd_core.specs.declared.source.Host.{Host}
use Rattle.vd_core.specs.declared.source.WrittenLabel.{WrittenLabel}
use Rattle.vd_core.specs.declared.source.Source.{Source}
use Rattle.vd_core.specs.Named.{HasNames}
use Rattle.vd_core.specs.Facts.{of_rights, amount_fits, shift_fits, ShiftsFit, host_is_declared, HostsDeclared, label_is_declared, written_is_declared, right_is_declared, PrincipalsDeclared, AreNames}
use Rattle.vd_semantics.specs.SourceMeaning.{host_names}
use Rattle.vd_elaborate.specs.declared.anf.spot.Spot.{Spot}
use Rattle.vd_elaborate.specs.Normal.{Made, renamed, main_made, normal_form}
use Rattle.vd_resolve.specs.Limits.{IsResolved}
use Rattle.vd_elaborate.proofs.Tests.{Tests, label_passes}
use Rattle.vd_elaborate.proofs.Laws.{op_passes, entry_passes, Laws}
use Rattle.vd_elaborate.proofs.ExprWalk.{left, right}
use Rattle.vd_elaborate.proofs.AnfWellformedWalk.{main_keeps, source_passes}
use Rattle.vd_elaborate.proofs.Every.{IsMade, Meeting, all_met}
use Rattle.vd_elaborate.proofs.Known.{declared_alone}
use Rattle.vd_elaborate.proofs.Resolved.{principal_names, resolved_known}

module _ (principals hosts : List (List ℕ)) where
  abbrev tests : Tests
  tests = declared_alone principals hosts

  amount_is : (o : Op) → op_passes tests o ≡ true → amount_fits o ≡ true
  amount_is op.Add h = refl
  amount_is op.Sub h = refl
  amount_is op.Mul h = refl
  amount_is (op.Scale k) h = refl
  amount_is op.Div h = refl
  amount_is op.Rem h = refl
  amount_is op.And h = refl
  amount_is op.Or h = refl
  amount_is op.Xor h = refl
  amount_is op.Not h = refl
  amount_is op.Flip h = refl
  amount_is (op.Shl bits) h = h
  amount_is (op.Shr bits) h = h
  amount_is op.Eq h = refl
  amount_is op.Ne h = refl
  amount_is op.Lt h = refl
  amount_is op.Le h = refl
  amount_is op.Min h = refl
  amount_is op.Max h = refl
  amount_is op.Mux h = refl

  shift_of : (r : Right) → IsMade tests r → shift_fits r ≡ true
  shift_of (Lit n) h = refl
  shift_of Turn h = refl
  shift_of (Copy x) h = refl
  shift_of (Apply o xs) h = amount_is o h.1
  shift_of (Input host) h = refl
  shift_of (Declassify x to) h = refl
  shift_of (Endorse x to) h = refl
  shift_of (Load v) h = refl
  shift_of (Get v i) h = refl

  shifts_meet : Meeting tests (of_rights shift_fits)
  shifts_meet = record {
    right = λ x r made. shift_of r made;
    turn = λ x. refl;
    variable = λ v x. refl;
    array = λ v n. refl;
    store = λ v x. refl;
    put = λ v i x. refl;
    output = λ x h offset ok. refl;
    branches = λ x a b offset. refl;
    loop = λ n body. refl;
  }

  host_of : (x : SlotId) (r : Right) → IsMade tests r → host_is_declared (length hosts) (Stmt-F.Let x r) ≡ true
  host_of x (Lit n) h = refl
  host_of x Turn h = refl
  host_of x (Copy y) h = refl
  host_of x (Apply o xs) h = refl
  host_of x (Input host) h = h
  host_of x (Declassify y to) h = refl
  host_of x (Endorse y to) h = refl
  host_of x (Load v) h = refl
  host_of x (Get v i) h = refl

  hosts_meet : Meeting tests (host_is_declared (length hosts))
  hosts_meet = record {
    right = λ x r made. host_of x r made;
    turn = λ x. refl;
    variable = λ v x. refl;
    array = λ v n. refl;
    store = λ v x. refl;
    put = λ v i x. refl;
    output = λ x h offset ok. ok;
    branches = λ x a b offset. refl;
    loop = λ n body. refl;
  }

  form_of_right : (r : Right) → IsMade tests r → right_is_declared principals r ≡ true
  form_of_right (Lit n) h = refl
  form_of_right Turn h = refl
  form_of_right (Copy x) h = refl
  form_of_right (Apply o xs) h = refl
  form_of_right (Input host) h = refl
  form_of_right (Declassify x to) h = h.1
  form_of_right (Endorse x to) h = h.1
  form_of_right (Load v) h = refl
  form_of_right (Get v i) h = refl

  forms_meet : Meeting tests (of_rights (right_is_declared principals))
  forms_meet = record {
    right = λ x r made. form_of_right r made;
    turn = λ x. refl;
    variable = λ v x. refl;
    array = λ v n. refl;
    store = λ v x. refl;
    put = λ v i x. refl;
    output = λ x h offset ok. refl;
    branches = λ x a b offset. refl;
    loop = λ n body. refl;
  }

  -- the labels of slots
  abbrev ok : Slot → Bool
  ok s = written_is_declared principals s.label

  entry_is : (l : Option Written) → entry_passes tests l ≡ true → written_is_declared principals l ≡ true
  entry_is None h = refl
  entry_is (Some l) h = h

  abbrev Keeps : Unit {0} → Made → Made → Type 0
  Keeps w m m' = list_all ok m.slots ≡ true → list_all ok m'.slots ≡ true

  abbrev At : Unit {0} → Made → Spot → Type 0
  At w m p = Unit {0}

  push : (ss : List Slot) (entry : Slot) → entry_passes tests entry.label ≡ true → list_all ok ss ≡ true → list_all ok (ss ++ entry ∷ []) ≡ true
  push ss entry e h = list_all-append ok ss (entry ∷ []) ∙ rw (h, entry_is entry.label e) refl

  relabelled : (ss : List Slot) (k : ℕ) (x : Ident) (label : Option WrittenLabel) → label_passes tests label ≡ true → list_all ok ss ≡ true → list_all ok (renamed ss k x label) ≡ true
  relabelled [] k x label e h = refl
  relabelled (s ∷ ss) zero x None e h = right (ok s) (list_all ok ss) h
  relabelled (s ∷ ss) zero x (Some l) e h = rw (e, right (ok s) (list_all ok ss) h) refl
  relabelled (s ∷ ss) (suc k) x label e h = rw (left (ok s) (list_all ok ss) h, relabelled ss k x label e (right (ok s) (list_all ok ss) h)) refl

  label_laws : Laws tests (Unit {0}) Keeps At (λ w m. tt)
  label_laws = record {
    none = λ w m h. h;
    after = λ w m m1 m2 a b h. b (a h);
    stays = λ w m m' p k h. tt;
    enters = λ w m e p h. tt;
    right = λ w m entry r e fine. push m.slots entry e;
    right_here = λ w m entry r fine. tt;
    variable = λ w m entry k e h. push m.slots entry e;
    variable_here = λ w m entry k. tt;
    array = λ w m entry n e. push m.slots entry e;
    array_here = λ w m entry n. tt;
    renamed = λ w m k x label e. relabelled m.slots k x label e;
    stores = λ w m v k a b h. h;
    puts = λ w m v i k a b c h. h;
    outputs = λ w m k host offset a e h. h;
    branches = λ w m k offset a b h oa ob s. ob (oa s);
    loops = λ w m count entry a e o h. o (push m.slots entry e h);
    turn_here = λ w m entry. tt;
    turn_stays = λ w m entry p h. tt;
  }

  labels_kept : (source : Source) → source_passes tests source ≡ true → list_all ok (main_made source).slots ≡ true
  labels_kept source p = main_keeps tests (Unit {0}) Keeps At (λ w m. tt) label_laws source p tt refl

pub shifts_fit_all : (source : Source) → IsResolved source → ShiftsFit (normal_form source)
shifts_fit_all source resolved =
    let ps = principal_names source in
    let hs = host_names source.hosts in
    all_met (declared_alone ps hs) (of_rights shift_fits) (shifts_meet ps hs) source (resolved_known source resolved).parts

pub hosts_declared : (source : Source) → IsResolved source → HostsDeclared (normal_form source)
hosts_declared source resolved =
    let ps = principal_names source in
    let hs = host_names source.hosts in
    all_met (declared_alone ps hs) (host_is_declared (length hs)) (hosts_meet ps hs) source (resolved_known source resolved).parts

pub principals_declared : (source : Source) → IsResolved source → PrincipalsDeclared (normal_form source)
principals_declared source resolved =
    let ps = principal_names source in
    let hs = host_names source.hosts in
    let known = resolved_known source resolved in
    record {
      rights = all_met (declared_alone ps hs) (of_rights (right_is_declared ps)) (forms_meet ps hs) source known.parts;
      slots = AllPass-from_list_all (λ (s : Slot). written_is_declared ps s.label) (main_made source).slots (labels_kept ps hs source known.parts);
      hosts = AllPass-from_list_all (label_is_declared ps) (normal_form source).labels known.labels;
    }

pub principals_are_names : (source : Source) → IsResolved source → HasNames source → AreNames (normal_form source).principals
principals_are_names source resolved named = record {
  each = AllPass-from_list_all is_name (normal_form source).principals
      (list_all-map is_name (λ (x : Ident). x.name) source.principals ∙ list_all-from_AllPass (λ (x : Ident). is_name x.name) source.principals named.principals);
  differ = (resolved_known source resolved).principals;
}

pub hosts_are_names : (source : Source) → IsResolved source → HasNames source → AreNames (normal_form source).hosts
hosts_are_names source resolved named = record {
  each = AllPass-from_list_all is_name (normal_form source).hosts
      (list_all-map is_name (λ (h : Host). h.name.name) source.hosts ∙ list_all-from_AllPass (λ (h : Host). is_name h.name.name) source.hosts named.hosts);
  differ = (resolved_known source resolved).hosts;
}
