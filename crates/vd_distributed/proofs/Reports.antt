-- What is reported of children that are runs of hosts.
use Rattle.std.proofs.Common.{◌≡◌, ℕ, zero, suc, ◌+◌, ◌<◌, List, [], ◌∷◌, ◌++◌, length, Some, Result, Ok, Err, codes, refl, sym, ap, ◌∙◌, subst, append_assoc, arith}
use Rattle.std.specs.Prelude.{slice_get, slice_index_or}
use Rattle.std.proofs.lemmas.List.{append_cancel_left, append_cancel_right, length-map}
use Rattle.std.proofs.lemmas.List.FromFn.{length-map-range_with_len}
use Rattle.vd_base.specs.declared.protocols.Proto.{Proto}
use Rattle.vd_core.specs.declared.source.Host.{Host}
use Rattle.vd_core.specs.declared.source.Source.{Source}
use Rattle.vd_core.specs.declared.normal.NormalForm.{NormalForm}
use Rattle.vd_semantics.specs.ProgramMeaning.{program_outputs}
use Rattle.vd_semantics.specs.SourceMeaning.{host_names, source_outputs}
use Rattle.vd_cmd_rewrite.specs.RunPrograms.{IsRunProgram, TellsAs}
use Rattle.vd_tape.specs.declared.deal_items.deal.Deal.{Deal}
use Rattle.vd_hostcode.specs.declared.host_text.program.Digest.{Digest}
use Rattle.vd_outside.specs.Sink.{SinkView}
use Rattle.vd_outside.specs.declared.child.Child.{Child}
use Rattle.vd_base.specs.Words.{AreWords}
use Rattle.vd_engine.specs.Drives.{lines}
use Rattle.vd_engine.specs.declared.engine.Ended.{Ended as Done}
use Rattle.vd_host_session.specs.Histories.{ended as ended_text, listening as listening_text}
use Rattle.vd_host_session.specs.declared.fault.HostFault.{HostFault}
use Rattle.vd_host_children.specs.Lines.{ended, listening}
use Rattle.vd_host_children.specs.Told.{AreHosts, IsHost}
use Rattle.vd_cmd.specs.declared.command.RunWords.{RunWords}
use Rattle.vd_cmd_labels.specs.Sources.{HoldsSource}
use Rattle.vd_cmd_plan.specs.declared.status.Status.TheVariants.{Ended}
use Rattle.vd_cmd_run.specs.CommandLines.{host_words}
use Rattle.vd_cmd_run.specs.EndedLines.{ended_lines}
use Rattle.vd_cmd_run.specs.RunsHosts.{Outside}
use Rattle.vd_cmd_run.specs.Asking.{ReportsHosts}
use Rattle.vd_cmd_run.specs.Running.{Runs}
use Rattle.vd_cmd_run.proofs.Front.{held_once, reports}
use Rattle.vd_distributed.specs.Running.{AreRunOverLinks, Run, WritesUpTo, WritesWhatItIsTold, text_of}
use Rattle.vd_distributed.proofs.Running.{outputs_count, running_hosts_tell_the_source, told_words}
use Rattle.vd_distributed.specs.Children.{AllTell, AreRuns, ChildrenTellTheSource, IsRunOf, text_of_lines}
use Rattle.vd_distributed.proofs.Texts.{numbers_text, same_words}

-- ---- one child

-- the text of lines, one after the other
texts_both : (xs ys : List (List ℕ)) → text_of_lines (xs ++ ys) ≡ text_of_lines xs ++ text_of_lines ys
texts_both [] ys = refl
texts_both (x ∷ xs) ys =
    ap (λ (rest : List ℕ). (x ++ codes "\n") ++ rest) (texts_both xs ys) ∙ sym (append_assoc (x ++ codes "\n") (text_of_lines xs) (text_of_lines ys))

-- the lines of a host that printed these words
host_text : (numbers : List (List ℕ)) → text_of_lines (listening ∷ (numbers ++ ended ∷ [])) ≡ listening_text ++ (text_of_lines numbers ++ ended_text)
host_text numbers = ap (λ (rest : List ℕ). listening_text ++ rest) (texts_both numbers (ended ∷ []))

ok_text : (result : Result Done HostFault) (done : Done) (before now : SinkView) (text : List ℕ) → result ≡ Ok done → WritesUpTo before now text result → now.taken ≡ before.taken ++ text
ok_text (Ok other) done before now text is writes = writes
ok_text (Err cause) done before now text is writes = absurd (cc is)

-- what a host's child printed is what the host is told
same_as_told : (told printed : List ℕ) (run : Run) (child : Child) (done : Done) → run.result ≡ Ok done → AreWords told → WritesWhatItIsTold told run → IsRunOf run child → IsHost printed child
    → printed ≡ told
same_as_told told printed run child done ok words writes is host =
    let wrote = ok_text run.result done run.out run.out_now (text_of told) ok (writes.written is.told) in
    let all : text_of_lines child.lines ≡ text_of told = append_cancel_left run.out.taken (text_of_lines child.lines) (text_of told) (sym is.wrote ∙ wrote) in
    let form = ap text_of_lines host.lines_are ∙ host_text host.numbers in
    let behind = append_cancel_left listening_text (text_of_lines host.numbers ++ ended_text) (lines told ++ ended_text) (sym form ∙ all) in
    let between = append_cancel_right (text_of_lines host.numbers) (lines told) ended_text behind in
    let numbers = numbers_text host.numbers printed host.words_are in
    same_words printed told numbers.1 words (sym numbers.0 ∙ between)

-- ---- all children

child_at : (printed : List (List ℕ)) (children : List Child) → AreHosts printed children → (h : ℕ) → h < length printed
    → (child : Child) × (slice_get children h ≡ Some child) × IsHost (slice_index_or printed h []) child
child_at [] children are h lt = absurd (omega (arith, lt))
child_at (words ∷ printed) [] are h lt = absurd are
child_at (words ∷ printed) (child ∷ children) are zero lt = (child, refl, are.0)
child_at (words ∷ printed) (child ∷ children) are (suc h) lt = child_at printed children are.1 h (omega (arith, lt))

as_many : (printed : List (List ℕ)) (children : List Child) → AreHosts printed children → length printed ≡ length children
as_many [] [] are = refl
as_many [] (child ∷ children) are = absurd are
as_many (words ∷ printed) [] are = absurd are
as_many (words ∷ printed) (child ∷ children) are = let rest = as_many printed children are.1 in omega (arith, rest)

by_place : (xs ys : List (List ℕ)) → length xs ≡ length ys → ((h : ℕ) → h < length xs → slice_index_or xs h [] ≡ slice_index_or ys h []) → xs ≡ ys
by_place [] [] e same = refl
by_place [] (y ∷ ys) e same = absurd (omega (arith, e))
by_place (x ∷ xs) [] e same = absurd (omega (arith, e))
by_place (x ∷ xs) (y ∷ ys) e same =
    let first : x ≡ y = same 0 (omega arith) in
    let rest : xs ≡ ys = by_place xs ys (omega (arith, e)) (λ h lt. same (suc h) (omega (arith, lt))) in
    λ i. first i ∷ rest i

module _ (source : Source) (program : NormalForm) (list : List Proto) (plan : Digest) (inputs : List (List ℕ)) (deals : List Deal) (run : ℕ → Run) (same : program_outputs program inputs ≡ source_outputs source inputs)
    (are : AreRunOverLinks program list plan inputs deals run) where
  abbrev n : ℕ
  n = length program.hosts

  abbrev told : ℕ → List ℕ
  told h = slice_index_or (source_outputs source inputs) h []

  -- each child printed what its host is told
  each_same : (printed : List (List ℕ)) (children : List Child) → AreHosts printed children → ((h : ℕ) (child : Child) → slice_get children h ≡ Some child → IsRunOf (run h) child)
      → length children ≡ n → (h : ℕ) → h < length printed → slice_index_or printed h [] ≡ told h
  each_same printed children hosts runs count h lt =
      let many = as_many printed children hosts in
      let below : h < n = omega (arith, lt, many, count) in
      let c = child_at printed children hosts h lt in
      let is = runs h c.0 c.1 in
      let done = is.well c.2.ends_well in
      same_as_told (told h) (slice_index_or printed h []) (run h) c.0 done.0 done.1 (told_words program list plan inputs deals run (source_outputs source inputs) same are h (are.stored h below) h below done.0 done.1)
      (running_hosts_tell_the_source source program list plan inputs deals run same are h below) is c.2

  -- so all printed what the source tells them, where there is a host
  all_same : 0 < n → (printed : List (List ℕ)) (children : List Child) → AreHosts printed children → ((h : ℕ) (child : Child) → slice_get children h ≡ Some child → IsRunOf (run h) child)
      → length children ≡ n → printed ≡ source_outputs source inputs
  all_same some printed children hosts runs count =
      by_place printed (source_outputs source inputs) (as_many printed children hosts ∙ count ∙ sym (outputs_count program list plan inputs deals run (source_outputs source inputs) same are 0 (are.stored 0 some)))
      (each_same printed children hosts runs count)

-- ---- the report

-- without a host nothing is reported
reported_lines : (names printed outputs : List (List ℕ)) → (0 < length names → printed ≡ outputs) → ended_lines names printed ≡ ended_lines names outputs
reported_lines [] printed outputs same = refl
reported_lines (name ∷ names) printed outputs same = ap (ended_lines (name ∷ names)) (same (omega arith))

module _ (words : RunWords) (before now : Outside) (tell : AllTell before now) (source : Source) (held : HoldsSource words.source before.files.contents source)
    (program : NormalForm) (is_run : IsRunProgram source program) (tells : TellsAs source program) (list : List Proto) (plan : Digest)
    (inputs : List (List ℕ)) (deals : List Deal) (run : ℕ → Run) (are : AreRunOverLinks program list plan inputs deals run) (runs : AreRuns run (length source.hosts) before.spawner) where
  hosts_count : length (host_names source.hosts) ≡ length source.hosts
  hosts_count = length-map source.hosts (λ (h : Host). h.name.name)

  reported : (names printed : List (List ℕ)) → names ≡ host_names source.hosts → (children : List Child) → length children ≡ length names
      → ((h : ℕ) (child : Child) → slice_get children h ≡ Some child → IsRunOf (run h) child) → AreHosts printed children
      → ended_lines names printed ≡ ended_lines (host_names source.hosts) (source_outputs source inputs)
  reported names printed same children count each hosts =
      let number : length children ≡ length program.hosts = count ∙ ap (λ (l : List (List ℕ)). length l) (same ∙ sym is_run.hosts) in
      ap (λ (l : List (List ℕ)). ended_lines l printed) same
      ∙ reported_lines (host_names source.hosts) printed (source_outputs source inputs) (λ some. all_same source program list plan inputs deals run (tells inputs are.files.words) are (subst (λ (l : List (List ℕ)). 0 < length l) (sym is_run.hosts) some) printed children hosts each number)

  all_told : Runs words before now Ended → now.out.taken ≡ before.out.taken ++ ended_lines (host_names source.hosts) (source_outputs source inputs)
  all_told ran =
      let r : ReportsHosts words before now = reports words before now ran in
      let hosts = r.hosts tell.files in
      let e = r.ended tell.children in
      let names : r.names ≡ host_names source.hosts =
      hosts.names_are ∙ ap (λ (s : Source). host_names s.hosts) (held_once words.source before.files.contents hosts.source source hosts.held held) in
      let count : length e.children ≡ length r.names = e.count ∙ length-map-range_with_len (host_words words.prefix words.inputs words.port (length r.names)) 0 (length r.names) in
      let each = runs e.children (count ∙ ap (λ (l : List (List ℕ)). length l) names ∙ hosts_count) e.next in
      r.reported tell.out ∙ ap (λ (l : List ℕ). before.out.taken ++ l) (reported r.names r.printed names e.children count each e.are_hosts)

pub children_tell_the_source : ChildrenTellTheSource
children_tell_the_source words before now ran tell source held program is_run tells list plan inputs deals run are runs = all_told words before now tell source held program is_run tells list plan inputs deals run are runs ran
