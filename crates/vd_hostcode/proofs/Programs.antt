-- A program and its file: what is read of one is read of the other, and each text is that of its program.
use Rattle.std.proofs.Common.{◌≡◌, ℕ, ◌-◌, ◌<◌, ◌≤◌, Bool, List, [], ◌∷◌, ◌++◌, length, map, Result, Ok, Err, refl, sym, ap, ap₂, subst, ◌∙◌, append_assoc, arith}
use Rattle.std.specs.Prelude.{codes, ◌↔◌, ◌||◌, min, IfOk, IfErr}
use Rattle.std.specs.List.{flat_map, AllByRecursion, list_any}
use Rattle.vd_base.specs.HostSets.{host}
use Rattle.vd_base_codec.specs.Reading.{Reading, ◌>>=◌, literal_at, field_at, to_the_end}
use Rattle.vd_base_codec.specs.Exact.{IsAnything, StopsAt, IsTextOf, whole, outcome, IsExactWhole}
use Rattle.vd_base_codec.proofs.Front.{stops_single, left_within}
use Rattle.vd_execution.specs.declared.instructions.Reg.{Reg}
use Rattle.vd_execution.specs.declared.instructions.Action.TheVariants as action
use Rattle.vd_execution.specs.declared.instructions.Instr.{Instr}
use Rattle.vd_execution.specs.declared.instructions.Instr.TheVariants as instr
use Rattle.vd_execution.specs.Text.{register}
use Rattle.vd_hostcode.specs.declared.host_text.blocks.Arrays.{Arrays}
use Rattle.vd_hostcode.specs.declared.host_text.program.HostProgram.{HostProgram}
use Rattle.vd_base.specs.declared.faults.FileFault.{FileFault}
use Rattle.vd_base.specs.declared.faults.FileFault.TheVariants.{Text, Memory}
use Rattle.vd_hostcode.specs.Words.{is_array}
use Rattle.vd_hostcode.specs.Text.{line, version, version_line, names_line, number_line, plan_line, head, program_text}
use Rattle.vd_hostcode.specs.Lines.{Line, line_text, line_of, start}
use Rattle.vd_hostcode.specs.Reading.{instr_of, instr_in, code_of, code_at, lines_at}
use Rattle.vd_hostcode.specs.File.{File, has_arrays, file_text, IsFile}
use Rattle.vd_hostcode.specs.Heading.{one_at, version_of, hosts_at, plan_at, file_at, file_read}
use Rattle.vd_hostcode.specs.HostTextOutcome.{program_with, program_of, file_of, IsHostFile, IsFileOf, IsRefused, FilesFollowGrammar, HasPeer, HasText, version_at, names_line_at, me_at, program_at, program_read, IsFaultOf}
use Rattle.vd_hostcode.proofs.FileExact.{file_exact, file_read_exact}

-- ---- what is read as a program is what is read as a file

abbrev as_program : Reading File → Reading HostProgram
as_program r = r >>= λ f. Ok (program_of f.0, f.1)

abbrev file_with : List (List ℕ) → ℕ → List ℕ → List Line → File
file_with hosts me plan lines = record { hosts = hosts; me = me; plan = plan; lines = lines }

-- what is read of a file behind its first lines, and the same of a program
abbrev code_file : Arrays → List (List ℕ) → ℕ → List ℕ → List ℕ → Reading File
code_file a hosts me plan bs = lines_at (length bs) (start a) bs >>= λ code. Ok (file_with hosts me plan code.0, code.1)

abbrev code_program : Arrays → List (List ℕ) → ℕ → List ℕ → List ℕ → Reading HostProgram
code_program a hosts me plan bs = code_at (start a) bs >>= λ code. Ok (program_with hosts me plan code.0, code.1)

abbrev plan_file : Arrays → List (List ℕ) → ℕ → List ℕ → Reading File
plan_file a hosts me bs = plan_at bs >>= λ plan. code_file a hosts me plan.0 plan.1

abbrev plan_program : Arrays → List (List ℕ) → ℕ → List ℕ → Reading HostProgram
plan_program a hosts me bs = plan_at bs >>= λ plan. code_program a hosts me plan.0 plan.1

abbrev me_file : Arrays → List (List ℕ) → List ℕ → Reading File
me_file a hosts bs = literal_at (codes "\nme") bs >>= λ next. (field_at (length hosts - 1) next.1 >>= λ me. plan_file a hosts me.0 me.1)

abbrev me_program : Arrays → List (List ℕ) → List ℕ → Reading HostProgram
me_program a hosts bs = (literal_at (codes "\nme") bs >>= λ x. field_at (length hosts - 1) x.1) >>= λ me. plan_program a hosts me.0 me.1

abbrev names_file : Arrays → List ℕ → Reading File
names_file a bs = literal_at (codes "\nhosts") bs >>= λ line. (hosts_at line.1 >>= λ hosts. me_file a hosts.0 hosts.1)

abbrev names_program : Arrays → List ℕ → Reading HostProgram
names_program a bs = (literal_at (codes "\nhosts") bs >>= λ x. hosts_at x.1) >>= λ hosts. me_program a hosts.0 hosts.1

by_lines : (hosts : List (List ℕ)) (me : ℕ) (plan : List ℕ) (r : Reading (List Line))
    → ((r >>= λ ls. Ok (code_of ls.0, ls.1)) >>= λ code. Ok (program_with hosts me plan code.0, code.1)) ≡ as_program (r >>= λ code. Ok (file_with hosts me plan code.0, code.1))
by_lines hosts me plan (Ok ls) = refl
by_lines hosts me plan (Err left) = refl

by_plan : (a : Arrays) (hosts : List (List ℕ)) (me : ℕ) (r : Reading (List ℕ)) → (r >>= λ plan. code_program a hosts me plan.0 plan.1) ≡ as_program (r >>= λ plan. code_file a hosts me plan.0 plan.1)
by_plan a hosts me (Ok plan) = by_lines hosts me plan.0 (lines_at (length plan.1) (start a) plan.1)
by_plan a hosts me (Err left) = refl

by_me : (a : Arrays) (hosts : List (List ℕ)) (r : Reading ℕ) → (r >>= λ me. plan_program a hosts me.0 me.1) ≡ as_program (r >>= λ me. plan_file a hosts me.0 me.1)
by_me a hosts (Ok me) = by_plan a hosts me.0 (plan_at me.1)
by_me a hosts (Err left) = refl

by_me_word : (a : Arrays) (hosts : List (List ℕ)) (r : Reading (Unit {0}))
    → ((r >>= λ x. field_at (length hosts - 1) x.1) >>= λ me. plan_program a hosts me.0 me.1) ≡ as_program (r >>= λ next. (field_at (length hosts - 1) next.1 >>= λ me. plan_file a hosts me.0 me.1))
by_me_word a hosts (Ok x) = by_me a hosts (field_at (length hosts - 1) x.1)
by_me_word a hosts (Err left) = refl

by_names : (a : Arrays) (r : Reading (List (List ℕ))) → (r >>= λ hosts. me_program a hosts.0 hosts.1) ≡ as_program (r >>= λ hosts. me_file a hosts.0 hosts.1)
by_names a (Ok hosts) = by_me_word a hosts.0 (literal_at (codes "\nme") hosts.1)
by_names a (Err left) = refl

by_names_word : (a : Arrays) (r : Reading (Unit {0})) → ((r >>= λ x. hosts_at x.1) >>= λ hosts. me_program a hosts.0 hosts.1) ≡ as_program (r >>= λ line. (hosts_at line.1 >>= λ hosts. me_file a hosts.0 hosts.1))
by_names_word a (Ok x) = by_names a (hosts_at x.1)
by_names_word a (Err left) = refl

by_version : (r : Reading Arrays) → (r >>= λ may. names_program may.0 may.1) ≡ as_program (r >>= λ may. names_file may.0 may.1)
by_version (Ok may) = by_names_word may.0 (literal_at (codes "\nhosts") may.1)
by_version (Err left) = refl

by_version_word : (r : Reading (Unit {0})) → ((r >>= λ x. one_at version_of x.1) >>= λ may. names_program may.0 may.1) ≡ as_program (r >>= λ version. (one_at version_of version.1 >>= λ may. names_file may.0 may.1))
by_version_word (Ok x) = by_version (one_at version_of x.1)
by_version_word (Err left) = refl

program_at_is : (bytes : List ℕ) → program_at bytes ≡ as_program (file_at bytes)
unfolding program_at version_at names_line_at me_at file_at
program_at_is bytes = by_version_word (literal_at (codes "viaduct-host ") bytes)

abbrev map_program : Result File ℕ → Result HostProgram ℕ
map_program (Ok f) = Ok (program_of f)
map_program (Err at) = Err at

end_as_program : (r : Reading File) → to_the_end (as_program r) ≡ as_program (to_the_end r)
end_as_program (Ok (f, [])) = refl
end_as_program (Ok (f, b ∷ left)) = refl
end_as_program (Err left) = refl

outcome_as_program : (bytes : List ℕ) (r : Reading File) → outcome bytes (as_program r) ≡ map_program (outcome bytes r)
outcome_as_program bytes (Ok f) = refl
outcome_as_program bytes (Err left) = refl

program_read_is : (bytes : List ℕ) → program_read bytes ≡ map_program (file_read bytes)
program_read_is bytes =
    ap (λ r. whole bytes r) (program_at_is bytes) ∙ ap (outcome bytes) (end_as_program (file_at bytes)) ∙ outcome_as_program bytes (to_the_end (file_at bytes))

left_by : (r : Reading File) (left : List ℕ) → as_program r ≡ Err left → r ≡ Err left
left_by (Ok f) left e = absurd cc
left_by (Err over) left e = let same : over ≡ left = cc in ap (λ x. Err x) same

left_of : (r : Reading File) (left : List ℕ) → to_the_end (as_program r) ≡ Err left → to_the_end r ≡ Err left
left_of r left e = left_by (to_the_end r) left (sym (end_as_program r) ∙ e)

pub left_is_within : (bytes left : List ℕ) → to_the_end (program_at bytes) ≡ Err left → length left ≤ length bytes
left_is_within bytes left e =
    left_within IsAnything IsFile file_text bytes left (file_at bytes) (file_exact bytes) (left_of (file_at bytes) left (sym (ap to_the_end (program_at_is bytes)) ∙ e))

-- ---- the law of files

follows : (bytes : List ℕ) (r : Result File ℕ) → IsExactWhole IsFile file_text bytes r
    → ((f : File) → (r ≡ Ok f) ↔ (IsFile f × (file_text f ≡ bytes))) × ((at : ℕ) → (r ≡ Err at) ↔ StopsAt (IsTextOf IsFile file_text) bytes at)
follows bytes (Ok x) exact = (
  λ f. (
    λ e. let same : x ≡ f = cc in subst (λ g. IsFile g × (file_text g ≡ bytes)) same (exact.0, exact.1),
    λ h. ap (λ y. Ok y) (sym (exact.2 f h.0 h.1)),
  ),
  λ at. (λ e. absurd cc, λ s. absurd (s.no_text (x, (exact.0, exact.1)))),
)
follows bytes (Err left) exact = (
  λ f. (λ e. absurd cc, λ h. absurd (exact.no_text (f, h))),
  λ at. (
    λ e. let same : left ≡ at = cc in subst (StopsAt (IsTextOf IsFile file_text) bytes) same exact,
    λ s. ap (λ y. Err y) (stops_single (IsTextOf IsFile file_text) bytes left at exact s),
  ),
)

pub follow_grammar : (bytes : List ℕ) → FilesFollowGrammar bytes
follow_grammar bytes = let both = follows bytes (file_read bytes) (file_read_exact bytes) in record { given = both.0; refused = both.1 }

-- ---- what the reader answers, by the grammar

file_there : (bytes : List ℕ) (p : HostProgram) (r : Result File ℕ) → file_read bytes ≡ r → map_program r ≡ Ok p → IsFileOf bytes p
file_there bytes p (Ok f) e m =
    let same : program_of f ≡ p = cc in
    let is = ((follow_grammar bytes).given f).0 e in
    (f, is.0, is.1, sym same)
file_there bytes p (Err at) e m = absurd cc

stops_there : (bytes : List ℕ) (at : ℕ) (r : Result File ℕ) → file_read bytes ≡ r → map_program r ≡ Err at → StopsAt IsHostFile bytes at
stops_there bytes at (Ok f) e m = absurd cc
stops_there bytes at (Err there) e m = let same : there ≡ at = cc in ((follow_grammar bytes).refused at).0 (e ∙ ap (λ x. Err x) same)

pub given_of : (bytes : List ℕ) (r : Result HostProgram FileFault) → IfOk r (λ p. program_read bytes ≡ Ok p) → IfOk r (λ p. IsFileOf bytes p)
given_of bytes (Ok p) e = file_there bytes p (file_read bytes) refl (sym (program_read_is bytes) ∙ e)
given_of bytes (Err fault) e = tt

fault_of : (bytes : List ℕ) (fault : FileFault) → IsFaultOf (program_read bytes) fault → IsRefused bytes fault
fault_of bytes (Text at) h = (h.0, stops_there bytes h.0 (file_read bytes) refl (sym (program_read_is bytes) ∙ h.1), h.2)
fault_of bytes Memory h = tt

pub refused_of : (bytes : List ℕ) (r : Result HostProgram FileFault) → IfErr r (λ f. IsFaultOf (program_read bytes) f) → IfErr r (λ f. IsRefused bytes f)
refused_of bytes (Ok p) h = tt
refused_of bytes (Err fault) h = fault_of bytes fault h

-- ---- the text of a program is that of its file

lines_written : (code : List Instr) → flat_map line code ≡ flat_map line_text (map line_of code)
unfolding line
lines_written [] = refl
lines_written (i ∷ code) = ap (λ bs. line_text (line_of i) ++ bs) (lines_written code)

arrays_written : (code : List Instr) → list_any is_array code ≡ has_arrays (map line_of code)
arrays_written [] = refl
arrays_written (i ∷ code) = ap (λ b. is_array i || b) (arrays_written code)

four : (a b c d e : List ℕ) → (a ++ (b ++ (c ++ d))) ++ e ≡ a ++ (b ++ (c ++ (d ++ e)))
four a b c d e = append_assoc a (b ++ (c ++ d)) e ∙ ap (λ bs. a ++ bs) (append_assoc b (c ++ d) e ∙ ap (λ bs. b ++ bs) (append_assoc c d e))

pub text_is : (p : HostProgram) → program_text p ≡ file_text (file_of p)
unfolding head
text_is p =
    four (version_line p.code) (names_line p.hosts) (number_line p.me.0) (plan_line p.plan.bytes) (flat_map line p.code ++ codes "end\n")
    ∙ ap₂ (λ (v : Bool) (ls : List ℕ). (codes "viaduct-host " ++ version v) ++ (names_line p.hosts ++ (number_line p.me.0 ++ (plan_line p.plan.bytes ++ (ls ++ codes "end\n"))))) (arrays_written p.code) (lines_written p.code)

-- ---- an instruction is that of its line

peer_back : (n : ℕ) → n < 256 → min n 255 ≡ n
peer_back n h = omega (arith, h)

registers_back : (rs : List Reg) → map register (map (λ r. r.0) rs) ≡ rs
registers_back [] = refl
registers_back (r ∷ rs) = ap (λ qs. r ∷ qs) (registers_back rs)

instr_back : (i : Instr) → HasPeer i → instr_in (line_of i) ≡ i
unfolding instr_of
instr_back (instr.Do (action.Const r k)) h = refl
instr_back (instr.Do (action.Copy r x)) h = refl
instr_back (instr.Do (action.Apply o r x y)) h = refl
instr_back (instr.Do (action.Shl r x k)) h = refl
instr_back (instr.Do (action.Shr r x k)) h = refl
instr_back (instr.Do (action.Mux r c x y)) h = refl
instr_back (instr.Do (action.Own r)) h = refl
instr_back (instr.Do (action.Triple p a b c)) h = ap (λ q. instr.Do (action.Triple (host q) a b c)) (peer_back p.0 h)
instr_back (instr.Do (action.Bits p a b c)) h = ap (λ q. instr.Do (action.Bits (host q) a b c)) (peer_back p.0 h)
instr_back (instr.Do (action.Pair p s x)) h = ap (λ q. instr.Do (action.Pair (host q) s x)) (peer_back p.0 h)
instr_back (instr.Do (action.Input r)) h = refl
instr_back (instr.Do (action.Print r)) h = refl
instr_back (instr.Do (action.Hash d n v)) h = refl
instr_back (instr.Do (action.Same x y)) h = refl
instr_back (instr.Do (action.Zero r count)) h = refl
instr_back (instr.Do (action.Get r x count i)) h = refl
instr_back (instr.Do (action.Put x count i s)) h = refl
instr_back (instr.Send p rs) h = ap₂ (λ (q : ℕ) (qs : List Reg). instr.Send (host q) qs) (peer_back p.0 h) (registers_back rs)
instr_back (instr.Recv p rs) h = ap₂ (λ (q : ℕ) (qs : List Reg). instr.Recv (host q) qs) (peer_back p.0 h) (registers_back rs)
instr_back (instr.If g) h = refl
instr_back instr.Else h = refl
instr_back (instr.For r count) h = refl
instr_back instr.End h = refl

code_back : (code : List Instr) → AllByRecursion HasPeer code → code_of (map line_of code) ≡ code
code_back [] h = refl
code_back (i ∷ code) h = ap₂ (λ (x : Instr) (xs : List Instr). x ∷ xs) (instr_back i h.0) (code_back code h.1)

pub text_is_file : (p : HostProgram) → HasText p → IsFileOf (program_text p) p
text_is_file p h = (file_of p, h.0, sym (text_is p), ap (λ code. program_with p.hosts p.me.0 p.plan.bytes code) (sym (code_back p.code h.1)))
