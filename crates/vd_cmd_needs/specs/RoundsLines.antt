-- What is printed of what a run costs.
use Rattle.std.specs.Prelude.{ℕ, nat_eq, if◌then◌else◌, List, [], ◌∷◌, ◌++◌, length, get_or, decimal, codes}
use Rattle.vd_base.specs.declared.ids.HostId.{HostId}
use Rattle.vd_execution.specs.declared.instructions.Instr.{Instr}
use Rattle.vd_execution.specs.Code.{Code}
use Rattle.vd_deal_needs.specs.Counted.{code_in}
use Rattle.vd_hostcode.specs.declared.host_text.program.HostProgram.{HostProgram}
use Rattle.vd_report.specs.ReportLines.{texts_below}
use Rattle.vd_rounds.specs.declared.loads.Traffic.{Traffic}
use Rattle.vd_rounds.specs.Loads.{plain_bytes, sealed_bytes, traffic_of}
use Rattle.vd_cmd_needs.specs.Lines.{name_at}

-- the least of two counts, if they differ
abbrev pub least_part : (least most : ℕ) → List ℕ
least_part least most = if nat_eq least most then [] else decimal least ++ codes ".."

-- a word and a count: one number, or where a run may have less or more, the least and the greatest
abbrev pub range_field : (word : List ℕ) → (least most : ℕ) → List ℕ
range_field word least most = word ++ 32 ∷ least_part least most ++ decimal most

abbrev pub traffic_fields : Traffic → List ℕ
traffic_fields t =
    range_field (codes " packets") t.least.packets t.most.packets ++ range_field (codes " words") t.least.words t.most.words
    ++ range_field (codes " bytes") (plain_bytes t.least) (plain_bytes t.most)
    ++ range_field (codes " sealed") (sealed_bytes t.least) (sealed_bytes t.most)

-- the line of a link
abbrev pub link_line : (from to : List ℕ) → Traffic → List ℕ
link_line from to t = from ++ codes ">" ++ to ++ traffic_fields t ++ 10 ∷ []

-- what a host with this code tells another; it tells itself nothing
abbrev pub told_line : List (List ℕ) → (me : ℕ) → Code → (to : ℕ) → List ℕ
told_line names me c to = if nat_eq me to then [] else link_line (name_at names me) (name_at names to) (traffic_of (record { 0 = to }) c)

-- a line for each host that it may tell something
abbrev pub told_lines : List (List ℕ) → (me : ℕ) → Code → List ℕ
told_lines names me c = texts_below (told_line names me c) (length names)

-- the lines of each host in turn, where these are the texts of their codes
abbrev pub rounds_below : List (List ℕ) → List (List Instr) → ℕ → List ℕ
rounds_below names list hosts = texts_below (λ h. told_lines names h (code_in (get_or list h []))) hosts

abbrev pub rounds_lines : List (List ℕ) → List (List Instr) → List ℕ
rounds_lines names list = rounds_below names list (length list)

-- of one host
abbrev pub told_in : HostProgram → List ℕ
told_in program = told_lines program.hosts program.me.0 (code_in program.code)
