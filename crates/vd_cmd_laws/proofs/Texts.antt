-- The files of a program that comes from a text: the names of its hosts take no more bytes than the text.
use Rattle.std.proofs.Common.{◌≡◌, ℕ, ◌+◌, ◌≤◌, List, [], ◌∷◌, length, Ok, refl, sym, ap, subst, ◌∙◌, arith, length-append}
use Rattle.std.specs.Prelude.{codes, flat_map}
use Rattle.std.specs.List.{AllByRecursion, sum_by}
use Rattle.std.proofs.lemmas.List.Concat.{flat_map-cons}
use Rattle.std.proofs.lemmas.List.Sums.{sum_by-cons}
use Rattle.vd_base.specs.declared.protocols.Proto.{Proto}
use Rattle.vd_outside.specs.declared.stored.Stored.{Stored}
use Rattle.vd_core.specs.declared.normal.NormalForm.{NormalForm}
use Rattle.vd_core.specs.declared.source.Host.{Host}
use Rattle.vd_core.specs.declared.source.Source.{Source}
use Rattle.vd_core.specs.Facts.{IsWellMade}
use Rattle.vd_parser.specs.Outcomes.{IsParse}
use Rattle.vd_semantics.specs.SourceMeaning.{host_names}
use Rattle.vd_elaborate.specs.Normal.{normal_form}
use Rattle.vd_core.specs.Numbers.{NumbersFit}
use Rattle.vd_hostcode.specs.declared.host_text.program.Digest.{Digest}
use Rattle.vd_hostcode.specs.Text.{name_field}
use Rattle.vd_projection.specs.Programs.{CanRunAt}
use Rattle.vd_cmd_plan.specs.Numbered.{file_name}
use Rattle.vd_cmd_laws.specs.Sizes.{name_bytes}
use Rattle.vd_cmd_laws.proofs.Names.{host_names_fit}
use Rattle.vd_cmd_compile.proofs.Front.{runnable_of}
use Rattle.vd_cmd_laws.specs.Compiled.{EachFrom, IsFileOf, IsReadBack, IsShort, CompiledFilesAreShort, CompiledFilesCanBeRead, plan_at}
use Rattle.vd_cmd_laws.proofs.Files.{compiled_files_are_read_back, counted_files, named_files, short_files}

-- ---- names

one_more : (name : List ℕ) → length (name_field name) ≡ 1 + length name
unfolding name_field
one_more name = omega arith

-- the names as they stand in a file take what they take in a text
names_take : (hosts : List Host) → length (flat_map name_field (host_names hosts)) ≡ sum_by name_bytes hosts
names_take [] = refl
names_take (h ∷ hs) =
    let name = h.name.name in
    let joined = ap length (flat_map-cons name_field name (host_names hs)) ∙ length-append (name_field name) (flat_map name_field (host_names hs)) in
    both _ _ _ _ _ _ joined (one_more name) (names_take hs) (sum_by-cons name_bytes h hs)
  where
    both : (all one rest bytes others sum : ℕ) → all ≡ one + rest → one ≡ bytes → rest ≡ others → sum ≡ bytes + others → all ≡ sum
    both all one rest bytes others sum p q r s = omega (arith, p, q, r, s)

pub names_short : (text : List ℕ) (source : Source) (program : NormalForm) → IsParse text (Ok source) → program.hosts ≡ (normal_form source).hosts → length (flat_map name_field program.hosts) ≤ 65536
names_short text source program parsed same =
    subst (λ (hosts : List (List ℕ)). length (flat_map name_field hosts) ≤ 65536) (sym same) (within _ _ _ (names_take source.hosts) (host_names_fit text source parsed) parsed.short)
  where
    within : (n m k : ℕ) → n ≡ m → m ≤ k → k ≤ 65536 → n ≤ 65536
    within n m k p q r = omega (arith, p, q, r)

pub compiled_files_are_short : CompiledFilesAreShort
compiled_files_are_short text source program a prefix parsed same can = short_files program a text prefix can (names_short text source program parsed same)

-- ---- both

both : (program : NormalForm) (list : List Proto) (plan : Digest) (prefix : List ℕ) (h : ℕ) (files : List Stored) → EachFrom (λ h file. file.name ≡ file_name prefix h (codes ".host")) h files
    → AllByRecursion IsShort files → EachFrom (λ h file. IsReadBack program list plan h file.content) h files → EachFrom (IsFileOf program list plan prefix) h files
both program list plan prefix h [] names a b = tt
both program list plan prefix h (f ∷ fs) names a b = (record { name = names.0; short = a.0; read = b.0 }, both program list plan prefix (h + 1) fs names.1 a.1 b.1)

pub compiled_files_can_be_read : (program : NormalForm) → IsWellMade program → NumbersFit program → CompiledFilesCanBeRead program
compiled_files_can_be_read program made numbers a text prefix is =
    let can : CanRunAt program a.protocols = record { made = made; numbers = numbers; runnable = runnable_of program a is.selected a.protocols refl } in
    let names = names_short text is.source program is.parsed is.is_run.hosts in
    record {
      counted = counted_files program a text prefix can;
      each = both program a.protocols (plan_at program a text) prefix 0 _ (named_files program a text prefix can) (short_files program a text prefix can names) (compiled_files_are_read_back program a text prefix can);
    }
