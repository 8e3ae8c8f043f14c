-- The files that were stored hold the programs of the hosts: their names differ, so that none was stored over another.
use Rattle.std.proofs.Common.{◌≡◌, ◌≢◌, ℕ, zero, suc, ◌+◌, ◌<◌, ◌≤◌, ◌^◌, Bool, true, false, if◌then◌else◌, Option, Some, List, [], ◌∷◌, ◌++◌, length, codes, bytes_eq, nat_lt, Result, Ok, Err, refl, ap, ◌∙◌, subst, arith}
use Rattle.std.specs.Fmt.{decimal}
use Rattle.std.specs.Prelude.{slice_index_or}
use Rattle.std.proofs.lemmas.Bool.{false_from_ne_true, ltb-true}
use Rattle.std.proofs.lemmas.Fmt.{decimal_injective}
use Rattle.std.proofs.lemmas.List.{append_cancel_left, append_cancel_right}
use Rattle.std.proofs.lemmas.Slice.Eq.{bytes_eq-Decides}
use Rattle.vd_base.specs.declared.protocols.Proto.{Proto}
use Rattle.vd_base.specs.HostSets.{host}
use Rattle.vd_base.specs.Limits.{most_host_file_bytes}
use Rattle.vd_core.specs.declared.normal.NormalForm.{NormalForm}
use Rattle.vd_core.specs.Facts.{IsWellMade}
use Rattle.vd_outside.specs.Files.{Contents, fetched, with_content}
use Rattle.vd_outside.specs.declared.faults.FetchFault.{FetchFault}
use Rattle.vd_outside.specs.declared.faults.FetchFault.TheVariants as fetch_fault
use Rattle.vd_outside.specs.declared.stored.Stored.{Stored}
use Rattle.vd_cmd_plan.specs.Deliver.{stored}
use Rattle.vd_cmd_plan.specs.Numbered.{file_name}
use Rattle.vd_cmd_plan.specs.declared.answer.Answer.{Answer}
use Rattle.vd_execution.specs.declared.instructions.Instr.{Instr}
use Rattle.vd_hostcode.specs.declared.host_text.program.Digest.{Digest}
use Rattle.vd_hostcode.specs.Text.{program_text}
use Rattle.vd_projection.specs.Programs.{host_codes}
use Rattle.vd_projection.specs.Stored.{stored_program}
use Rattle.vd_projection.proofs.Front.{stored_texts_are_short}
use Rattle.vd_cmd_compile.specs.Compiling.{host_file, host_files, plan_for}
use Rattle.vd_cmd_compile.specs.Telling.{CompilesText}
use Rattle.vd_cmd_compile.proofs.Front.{code_count}
use Rattle.vd_cmd_laws.specs.Holding.{HoldsProgram, IsCompilation}
use Rattle.vd_cmd_laws.proofs.Files.{is_read}
use Rattle.vd_cmd_laws.proofs.Texts.{names_short}

-- ---- names

-- two numbers have names that differ
names_differ : (prefix ending : List ℕ) (m n : ℕ) → m < 2 ^ 64 → n < 2 ^ 64 → m ≢ n → bytes_eq (file_name prefix m ending) (file_name prefix n ending) ≡ false
names_differ prefix ending m n small few other =
    false_from_ne_true (bytes_eq (file_name prefix m ending) (file_name prefix n ending)) (λ same.
    let equal = (bytes_eq-Decides (file_name prefix m ending) (file_name prefix n ending)).0 same in
    let behind = append_cancel_left prefix (codes "." ++ (decimal m ++ ending)) (codes "." ++ (decimal n ++ ending)) equal in
    let numbers = append_cancel_left (codes ".") (decimal m ++ ending) (decimal n ++ ending) behind in
    other (decimal_injective m n small few (append_cancel_right (decimal m) (decimal n) ending numbers)))

same_name : (name : List ℕ) → bytes_eq name name ≡ true
same_name name = (bytes_eq-Decides name name).1 refl

-- ---- what is stored

put : (files : Contents) (name : List ℕ) (content : Option (List ℕ)) → with_content files name content name ≡ content
put files name content = ap (λ (b : Bool). if b then content else files name) (same_name name)

kept : (files : Contents) (name other : List ℕ) (content : Option (List ℕ)) → bytes_eq name other ≡ false → with_content files name content other ≡ files other
kept files name other content differ = ap (λ (b : Bool). if b then content else files other) differ

module _ (prefix : List ℕ) (hosts : List (List ℕ)) (plan : Digest) where
  abbrev name : ℕ → List ℕ
  name n = file_name prefix n (codes ".host")

  abbrev content : ℕ → List Instr → Option (List ℕ)
  content n code = Some (host_file prefix hosts plan n code).content

  -- a file of an earlier host is left alone
  left : (rest : List (List Instr)) (k n : ℕ) (files : Contents) → n < k → k + length rest ≤ 100 → stored (host_files prefix hosts plan k rest) files (name n) ≡ files (name n)
  left [] k n files lt few = refl
  left (code ∷ rest) k n files lt few =
      left rest (k + 1) n (with_content files (name k) (content k code)) (omega (arith, lt)) (omega (arith, few))
      ∙ kept files (name k) (name n) (content k code) (names_differ prefix (codes ".host") k n (omega (arith, few)) (omega (arith, lt, few)) (λ e. omega (arith, e, lt)))

  -- the file of each host has its own code
  there : (all : List (List Instr)) (k i n : ℕ) (files : Contents) → i < length all → k + length all ≤ 100 → n ≡ k + i
      → stored (host_files prefix hosts plan k all) files (name n) ≡ content n (slice_index_or all i [])
  there [] k i n files lt few e = absurd (omega (arith, lt))
  there (code ∷ rest) k zero n files lt few e =
      let same : k ≡ n = omega (arith, e) in
      subst (λ (m : ℕ). stored (host_files prefix hosts plan k (code ∷ rest)) files (name m) ≡ content m code) same
      (left rest (k + 1) k (with_content files (name k) (content k code)) (omega arith) (omega (arith, few)) ∙ put files (name k) (content k code))
  there (code ∷ rest) k (suc i) n files lt few e =
      there rest (k + 1) i n (with_content files (name k) (content k code)) (omega (arith, lt)) (omega (arith, few)) (omega (arith, e))

-- a file that is not too long is fetched
not_too_long : (limit size : ℕ) → size ≤ limit → nat_lt limit size ≡ false
not_too_long limit size le = false_from_ne_true (nat_lt limit size) (λ e. let lt = ltb-true limit size e in omega (arith, lt, le))

is_fetched : (found : Option (List ℕ)) (limit : ℕ) (bytes : List ℕ) → found ≡ Some bytes → length bytes ≤ limit → fetched found limit ≡ Ok bytes
is_fetched found limit bytes is le =
    ap (λ (f : Option (List ℕ)). fetched f limit) is
    ∙ ap (λ (b : Bool). if_too_long b) (not_too_long limit (length bytes) le)
  where
    if_too_long : Bool → Result (List ℕ) FetchFault
    if_too_long b = if b then Err fetch_fault.TooLong else Ok bytes

-- ---- all programs

few_hosts : (program : NormalForm) (list : List Proto) → IsWellMade program → 0 + length (host_codes program list) ≤ 100
few_hosts program list made = let n = code_count program list in let limit = made.limits.hosts in omega (arith, n, limit)

module _ (text prefix : List ℕ) (answer : Answer) (before now : Contents) (is : CompilesText text prefix answer) (same : now ≡ stored answer.stores before) where
  abbrev program : NormalForm
  program = is.program

  abbrev list : List Proto
  list = is.programs.assignment.protocols

  abbrev plan : Digest
  plan = plan_for text answer.printed

  held : (h : ℕ) → h < length program.hosts → HoldsProgram program list plan prefix now h
  held h lt =
      let can = is.programs.can_be_stored h lt in
      let count = code_count program list in
      let found = ap (λ (files : Contents). files (file_name prefix h (codes ".host"))) (same ∙ ap (λ (pieces : List Stored). stored pieces before) is.programs.stores) in
      let here = there prefix program.hosts plan (host_codes program list) 0 h h before (omega (arith, lt, count)) (few_hosts program list can.runs.made) (omega arith) in
      let bytes = program_text (stored_program program list plan h) in
      record {
        bytes = bytes;
        is_fetched = is_fetched (now (file_name prefix h (codes ".host"))) most_host_file_bytes bytes (found ∙ here) (stored_texts_are_short program list plan h can (names_short text is.source program is.read.parsed is.is_run.hosts));
        holds = is_read program list plan can.digest can.runs prefix h lt;
      }

  pub programs_held : IsCompilation text prefix answer.printed now
  programs_held = record { source = is.source; read = is.read; program = program; is_run = is.is_run; tells = is.tells; assignment = is.programs.assignment; selected = is.programs.selected; programs = held; can_be_stored = is.programs.can_be_stored }
