-- What a resolved source gives: its names are distinct and declared, and its size is within the limits.
use Rattle.std.proofs.Common.{◌≡◌, ℕ, ◌≤◌, true, nat_lt, List, [], ◌∷◌, length, map, Ok, refl, ap, ◌∙◌, subst, arith}
use Rattle.std.specs.List.{list_all, IsDistinct}
use Rattle.std.specs.Str.{bytes_eq}
use Rattle.vd_core.specs.declared.source.Ident.{Ident}
use Rattle.vd_core.specs.declared.source.Host.{Host}
use Rattle.vd_core.specs.declared.source.Source.{Source}
use Rattle.vd_core.specs.declared.normal.Written.{Written}
use Rattle.vd_core.specs.Facts.{label_is_declared}
use Rattle.vd_semantics.specs.SourceMeaning.{host_names}
use Rattle.vd_elaborate.specs.Normal.{written}
use Rattle.vd_resolve.specs.Faults as fault
use Rattle.vd_resolve.specs.declared.fault.Quantity.{Quantity}
use Rattle.vd_resolve.specs.declared.fault.Quantity.TheVariants as quantity
use Rattle.vd_resolve.specs.Rules.{Names, and_then, declared, distinct, hosts_check, label_check, bodies_check, source_check}
use Rattle.vd_resolve.specs.Sizes.{capped, source_size}
use Rattle.vd_resolve.specs.Limits.{within, limits_check, IsResolved}
use Rattle.vd_elaborate.proofs.AnfWellformedWalk.{source_passes}
use Rattle.vd_elaborate.proofs.AnfWellformedSteps.{passed, refused}
use Rattle.vd_elaborate.proofs.Distinct.{tagged, idents, declared_names, all_distinct}
use Rattle.vd_elaborate.proofs.AnfWellformedForms.{label_declared}
use Rattle.vd_elaborate.proofs.Known.{declared_alone, bodies_known}

abbrev pub principal_names : Source → List (List ℕ)
principal_names source = idents source.principals

abbrev host_idents : List Host → List Ident
host_idents hs = map (λ h. h.name) hs

names_of_idents : (hs : List Host) → idents (host_idents hs) ≡ host_names hs
names_of_idents [] = refl
names_of_idents (h ∷ hs) = ap (λ z. h.name.name ∷ z) (names_of_idents hs)

hosts_distinct : (principals before after : Names) (hs : List Host) → hosts_check principals before hs ≡ Ok after → distinct before (host_idents hs) ≡ Ok after
hosts_distinct principals before after [] p = p
hosts_distinct principals before after (h ∷ hs) p =
    let s = passed (declared h.name tt before) (λ next. and_then (label_check h.label principals) (λ done. hosts_check principals next hs)) after p in
    let t = passed (label_check h.label principals) (λ done. hosts_check principals s.0 hs) after s.2 in
    rw s.1 (hosts_distinct principals s.0 after hs t.2)

hosts_labelled : (ps : List (List ℕ)) (before after : Names) (hs : List Host) → hosts_check (tagged ps) before hs ≡ Ok after → list_all (label_is_declared ps) (map {B = Written} (λ h. written h.label) hs) ≡ true
hosts_labelled ps before after [] p = refl
hosts_labelled ps before after (h ∷ hs) p =
    let s = passed (declared h.name tt before) (λ next. and_then (label_check h.label (tagged ps)) (λ done. hosts_check (tagged ps) next hs)) after p in
    let t = passed (label_check h.label (tagged ps)) (λ done. hosts_check (tagged ps) s.0 hs) after s.2 in
    rw (label_declared ps h.label t.1, hosts_labelled ps s.0 after hs t.2) refl

pub record Known (source : Source) : Type 0 where
  pub principals : IsDistinct bytes_eq (principal_names source)
  pub hosts : IsDistinct bytes_eq (host_names source.hosts)
  pub labels : list_all (label_is_declared (principal_names source)) (map {B = Written} (λ h. written h.label) source.hosts) ≡ true
  pub parts : source_passes (declared_alone (principal_names source) (host_names source.hosts)) source ≡ true

known_of : (source : Source) → source_check source ≡ Ok tt → Known source
known_of source p =
    let ps = principal_names source in
    let hs = host_names source.hosts in
    let s = passed (distinct [] source.principals) (λ principals. and_then (hosts_check principals [] source.hosts) (λ hosts. bodies_check principals hosts source.functions source.main)) tt p in
    let t = passed (hosts_check s.0 [] source.hosts) (λ hosts. bodies_check s.0 hosts source.functions source.main) tt s.2 in
    let is : s.0 ≡ tagged ps = declared_names source.principals s.0 s.1 in
    let d = hosts_distinct s.0 [] t.0 source.hosts t.1 in
    let hosts_are : t.0 ≡ tagged hs = declared_names (host_idents source.hosts) t.0 d ∙ ap tagged (names_of_idents source.hosts) in
    record {
      principals = all_distinct [] s.0 source.principals s.1;
      hosts = subst (IsDistinct bytes_eq) (names_of_idents source.hosts) (all_distinct [] t.0 (host_idents source.hosts) d);
      labels = hosts_labelled ps [] t.0 source.hosts (subst (λ (z : Names). hosts_check z [] source.hosts ≡ Ok t.0) is t.1);
      parts = bodies_known ps hs source.functions source.main s.0 t.0 is hosts_are tt t.2;
    }

-- the limits
within_is : (which : Quantity) (limit count : ℕ) (u : Unit {0}) → within which limit count ≡ Ok u → count ≤ limit
unfolding within
within_is which limit count u p =
    let r = (refused (nat_lt limit count) (fault.Limit which (capped count)) (Ok tt) u p).0 in grind arith

pub record Limited (source : Source) : Type 0 where
  pub principals : length source.principals ≤ 6
  pub hosts : length source.hosts ≤ 4
  pub nesting : (source_size source).nesting ≤ 8
  pub statements : (source_size source).statements ≤ 512
  pub weights : (source_size source).weights ≤ 65536
  pub cells : (source_size source).cells ≤ 65536

limited_of : (source : Source) → limits_check (length source.principals) (length source.hosts) (source_size source) ≡ Ok tt → Limited source
limited_of source p =
    let size = source_size source in
    let a = passed (within quantity.Principals 6 (length source.principals)) (λ done. and_then (within quantity.Hosts 4 (length source.hosts)) (λ done. and_then (within quantity.Nesting 8 size.nesting) (λ done. and_then (within quantity.Statements 512 size.statements) (λ done. and_then (within quantity.Weights 65536 size.weights) (λ done. within quantity.Cells 65536 size.cells))))) tt p in
    let b = passed (within quantity.Hosts 4 (length source.hosts)) (λ done. and_then (within quantity.Nesting 8 size.nesting) (λ done. and_then (within quantity.Statements 512 size.statements) (λ done. and_then (within quantity.Weights 65536 size.weights) (λ done. within quantity.Cells 65536 size.cells)))) tt a.2 in
    let c = passed (within quantity.Nesting 8 size.nesting) (λ done. and_then (within quantity.Statements 512 size.statements) (λ done. and_then (within quantity.Weights 65536 size.weights) (λ done. within quantity.Cells 65536 size.cells))) tt b.2 in
    let d = passed (within quantity.Statements 512 size.statements) (λ done. and_then (within quantity.Weights 65536 size.weights) (λ done. within quantity.Cells 65536 size.cells)) tt c.2 in
    let e = passed (within quantity.Weights 65536 size.weights) (λ done. within quantity.Cells 65536 size.cells) tt d.2 in
    record {
      principals = within_is quantity.Principals 6 (length source.principals) a.0 a.1;
      hosts = within_is quantity.Hosts 4 (length source.hosts) b.0 b.1;
      nesting = within_is quantity.Nesting 8 size.nesting c.0 c.1;
      statements = within_is quantity.Statements 512 size.statements d.0 d.1;
      weights = within_is quantity.Weights 65536 size.weights e.0 e.1;
      cells = within_is quantity.Cells 65536 size.cells tt e.2;
    }

pub resolved_known : (source : Source) → IsResolved source → Known source
resolved_known source p =
    let s = passed (source_check source) (λ done. limits_check (length source.principals) (length source.hosts) (source_size source)) tt p in
    known_of source s.1

pub resolved_limited : (source : Source) → IsResolved source → Limited source
resolved_limited source p =
    let s = passed (source_check source) (λ done. limits_check (length source.principals) (length source.hosts) (source_size source)) tt p in
    limited_of source s.2
