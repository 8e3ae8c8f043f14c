-- The number of each status, and its line.
use Rattle.std.specs.Prelude.{◌≡◌, ◌≤◌, ◌⊎◌, ℕ, ℤ, IsTrue, List, [], ◌++◌, take, codes}
use Rattle.std.specs.Fmt.{decimal, signed_decimal}
use Rattle.vd_outside.specs.Causes.{Rose}
use Rattle.vd_outside.specs.Sink.{SinkView}
use Rattle.vd_cmd_plan.specs.Shown.{shown}
use Rattle.vd_host_children.specs.declared.fault.ChildrenFault.{ChildrenFault}
use Rattle.vd_host_children.specs.declared.fault.ChildrenFault.TheVariants as children_fault
use Rattle.vd_parser.specs.declared.fault.ParseFault.{ParseFault}
use Rattle.vd_parser.specs.declared.fault.ParseFault.TheVariants as parse_fault
use Rattle.vd_bound.specs.declared.checking.CheckFault.{CheckFault}
use Rattle.vd_bound.specs.declared.checking.CheckFault.TheVariants as check_fault
use Rattle.vd_report.specs.ChoiceLines.{host_name}
use Rattle.vd_report.specs.declared.fault.ReadFault.{ReadFault as TextFault}
use Rattle.vd_report.specs.declared.fault.ReadFault.TheVariants as read_fault
use Rattle.vd_tape.specs.declared.deal_items.deal.BadItem.{BadItem}
use Rattle.vd_tape.specs.declared.deal_items.deal.DealKind.{DealKind}
use Rattle.vd_tape.specs.declared.deal_items.deal.DealKind.TheVariants as deal_kind
use Rattle.vd_resolve.specs.declared.fault.Quantity.{Quantity}
use Rattle.vd_resolve.specs.declared.fault.Quantity.TheVariants as quantity
use Rattle.vd_resolve.specs.declared.fault.NameFault.{NameFault}
use Rattle.vd_resolve.specs.declared.fault.NameFault.TheVariants as name_fault
use Rattle.vd_cmd_plan.specs.declared.status.HostStatus.{HostStatus}
use Rattle.vd_cmd_plan.specs.declared.status.HostStatus.TheVariants as host_status
use Rattle.vd_cmd_plan.specs.declared.status.Status.{Status}
use Rattle.vd_cmd_plan.specs.declared.status.Status.TheVariants.{Ended, Memory, Usage, ReadFault, WriteFault, TooLong, Syntax, Names, Flow, NoAssignment, Spent, InputText, DealText, ScheduleText, CertificateText, BadDeal, CertificateRefused, Host, ChildFault, NoHost, NotTwo, HasCommit, DealShort, ViewDiffers, DealUsed, ShortKey, Table, Report}
use Rattle.vd_cmd_plan.specs.declared.status.ReportFault.{ReportFault}
use Rattle.vd_cmd_plan.specs.declared.status.ReportFault.TheVariants as report_fault
use Rattle.vd_cmd_plan.specs.declared.status.TableFault.{TableFault}
use Rattle.vd_cmd_plan.specs.declared.status.TableFault.TheVariants as table_fault

abbrev pub host_code : HostStatus → ℕ
host_code (host_status.ProgramText offset) = 14
host_code (host_status.ProgramRange number) = 14
host_code (host_status.PeerFault name) = 18
host_code (host_status.BadFrame offset byte) = 19
host_code (host_status.Unequal left right) = 20
host_code (host_status.WrongProgram peer ours theirs) = 21
host_code (host_status.WrongHost wanted named) = 22
host_code (host_status.ShortInput cursor count) = 23
host_code (host_status.ShortDeal kind cursor count) = 24
host_code (host_status.EndOfLink name) = 25

abbrev pub code_of : Status → ℕ
code_of Ended = 0
code_of Memory = 1
code_of Usage = 2
code_of (ReadFault name) = 3
code_of WriteFault = 4
code_of (TooLong name limit) = 5
code_of (Syntax fault) = 6
code_of (Names fault) = 7
code_of (Flow fault) = 8
code_of (NoAssignment labelled) = 9
code_of (Spent budget labelled) = 10
code_of (InputText fault) = 11
code_of (DealText name number offset) = 12
code_of (ScheduleText fault) = 13
code_of (CertificateText offset) = 15
code_of (BadDeal bad) = 16
code_of (CertificateRefused fault) = 17
code_of (Host status) = host_code status
code_of (ChildFault hosts fault) = 26
code_of (NoHost name) = 27
code_of (NotTwo count) = 28
code_of (HasCommit slot) = 29
code_of (DealShort kind) = 31
code_of (ViewDiffers place) = 32
code_of (DealUsed name) = 33
code_of (ShortKey name length) = 34
code_of (Table name row column fault) = 35
code_of (Report name fault) = 36

-- a text that ends in a number
abbrev pub offset_line : List ℕ → ℕ → List ℕ
offset_line text offset = text ++ (decimal offset ++ codes "\n")

abbrev pub memory_line : List ℕ
memory_line = codes "viaduct: memory\n"

abbrev pub syntax_line : ParseFault → List ℕ
syntax_line (parse_fault.BadByte offset) = offset_line (codes "viaduct: bad byte at ") offset
syntax_line (parse_fault.Unexpected token offset) = offset_line (codes "viaduct: unexpected token at ") offset
syntax_line (parse_fault.TooDeep offset) = offset_line (codes "viaduct: nesting at ") offset
syntax_line (parse_fault.TooLong length) = codes "viaduct: too long\n"
syntax_line parse_fault.Memory = memory_line

abbrev pub quantity_name : Quantity → List ℕ
quantity_name quantity.Principals = codes "principals"
quantity_name quantity.Hosts = codes "hosts"
quantity_name quantity.Nesting = codes "nesting"
quantity_name quantity.Statements = codes "statements"
quantity_name quantity.Weights = codes "weights"
quantity_name quantity.Cells = codes "cells"

abbrev pub limit_line : Quantity → (count : ℕ) → List ℕ
limit_line which count = codes "viaduct: limit " ++ (quantity_name which ++ (codes " " ++ (decimal count ++ codes "\n")))

abbrev pub rule_line : NameFault → List ℕ
rule_line (name_fault.Unknown at) = offset_line (codes "viaduct: unknown name at ") at.start
rule_line (name_fault.Twice at first) = offset_line (codes "viaduct: name twice at ") at.start
rule_line (name_fault.Recursive at) = offset_line (codes "viaduct: recursive call at ") at.start
rule_line (name_fault.Arity at) = offset_line (codes "viaduct: arity at ") at.start
rule_line (name_fault.Kind at met) = offset_line (codes "viaduct: kind at ") at.start
rule_line (name_fault.Limit which count) = limit_line which count
rule_line name_fault.Memory = memory_line

abbrev pub flow_line : (check offset : ℕ) → List ℕ
flow_line check offset = codes "viaduct: flow check " ++ (decimal check ++ (codes " at " ++ (decimal offset ++ codes "\n")))

abbrev pub input_line : TextFault → List ℕ
input_line (read_fault.Text offset) = offset_line (codes "viaduct: input text at ") offset
input_line (read_fault.UnknownHost offset) = offset_line (codes "viaduct: input host at ") offset
input_line read_fault.Memory = memory_line

abbrev pub deal_line : List ℕ → ℕ → List ℕ
deal_line name offset = codes "viaduct: deal text " ++ (shown name ++ offset_line (codes " at ") offset)

abbrev pub schedule_line : TextFault → List ℕ
schedule_line (read_fault.Text offset) = offset_line (codes "viaduct: schedule text at ") offset
schedule_line (read_fault.UnknownHost offset) = offset_line (codes "viaduct: schedule host at ") offset
schedule_line read_fault.Memory = memory_line

abbrev pub kind_name : DealKind → List ℕ
kind_name deal_kind.Own = codes "own"
kind_name deal_kind.Mul = codes "mul"
kind_name deal_kind.And = codes "and"
kind_name deal_kind.Pair = codes "pair"

-- a number behind the space that parts it from what stands before it, and what follows
abbrev pub number_then : ℕ → List ℕ → List ℕ
number_then number behind = codes " " ++ (decimal number ++ behind)

-- the kind, the two hosts, the place, and both sides
abbrev pub bad_deal_line : BadItem → List ℕ
bad_deal_line bad =
    codes "viaduct: bad deal " ++ (kind_name bad.kind ++ number_then bad.first.0 (number_then bad.second.0 (number_then bad.index
    (number_then bad.left (number_then bad.right (codes "\n"))))))

abbrev pub cost_line : ℕ → ℤ → List ℕ
cost_line stated own = codes "viaduct: cert refused cost " ++ (decimal stated ++ (codes " " ++ (signed_decimal own ++ codes "\n")))

abbrev pub bound_line : ℕ → ℤ → ℕ → List ℕ
bound_line mark bound cost =
    codes "viaduct: cert refused not bounded " ++ (decimal mark ++ (codes " " ++ (signed_decimal bound ++ (codes " " ++ (decimal cost ++ codes "\n")))))

abbrev pub certificate_line : CheckFault → List ℕ
certificate_line (check_fault.BadShift shift) = offset_line (codes "viaduct: cert refused shift ") shift
certificate_line (check_fault.Shape mark) = offset_line (codes "viaduct: cert refused shape ") mark
certificate_line check_fault.BestInvalid = codes "viaduct: cert refused best invalid\n"
certificate_line (check_fault.CostWrong stated own) = cost_line stated own
certificate_line (check_fault.NotViolated mark) = offset_line (codes "viaduct: cert refused not violated ") mark
certificate_line (check_fault.NotBounded mark bound cost) = bound_line mark bound cost
certificate_line check_fault.Memory = memory_line

-- a text that ends in a name, which is shown without control characters; with a number of bytes behind it; and one that ends in two numbers
abbrev pub name_line : List ℕ → List ℕ → List ℕ
name_line text name = text ++ (shown name ++ codes "\n")

abbrev pub sized_line : List ℕ → (name : List ℕ) → (size : ℕ) → List ℕ
sized_line text name size = text ++ (shown name ++ (codes " " ++ (decimal size ++ codes "\n")))

abbrev pub two_line : List ℕ → (first second : ℕ) → List ℕ
two_line text first second = text ++ (decimal first ++ number_then second (codes "\n"))

abbrev pub frame_line : (offset byte : ℕ) → List ℕ
frame_line offset byte = codes "viaduct: bad frame at " ++ (decimal offset ++ offset_line (codes " byte ") byte)

abbrev pub short_deal_line : DealKind → (cursor count : ℕ) → List ℕ
short_deal_line kind cursor count = codes "viaduct: short deal " ++ (kind_name kind ++ number_then cursor (number_then count (codes "\n")))

-- why a host did not run to its end
abbrev pub host_line : HostStatus → List ℕ
host_line (host_status.ProgramText offset) = offset_line (codes "viaduct: host text at ") offset
host_line (host_status.ProgramRange number) = offset_line (codes "viaduct: host range at ") number
host_line (host_status.PeerFault name) = name_line (codes "viaduct: peer fault ") name
host_line (host_status.BadFrame offset byte) = frame_line offset byte
host_line (host_status.Unequal left right) = two_line (codes "viaduct: unequal ") left right
host_line (host_status.WrongProgram peer ours theirs) = codes "viaduct: wrong program\n"
host_line (host_status.WrongHost wanted named) = two_line (codes "viaduct: wrong host ") wanted named
host_line (host_status.ShortInput cursor count) = two_line (codes "viaduct: short input ") cursor count
host_line (host_status.ShortDeal kind cursor count) = short_deal_line kind cursor count
host_line (host_status.EndOfLink name) = name_line (codes "viaduct: link ended ") name

-- a host, and why its child did not end well
abbrev pub child_line : List ℕ → List ℕ → List ℕ
child_line name cause = codes "viaduct: child fault " ++ (shown name ++ cause)

-- why the children of hosts with these names did not come to an end
abbrev pub children_line : List (List ℕ) → ChildrenFault → List ℕ
children_line hosts children_fault.Memory = memory_line
children_line hosts (children_fault.Failed host) = child_line (host_name hosts host) (codes "\n")
children_line hosts (children_fault.Line host) = child_line (host_name hosts host) (codes " line\n")
children_line hosts (children_fault.Status host status) = child_line (host_name hosts host) (codes " " ++ (decimal status ++ codes "\n"))

-- what is wrong with a cell, or with a table
abbrev pub table_word : TableFault → List ℕ
table_word table_fault.NoHeader = codes "no header"
table_word table_fault.NoColumn = codes "no column"
table_word table_fault.Length = codes "length"
table_word table_fault.EmptyLine = codes "empty line"
table_word table_fault.Empty = codes "empty"
table_word table_fault.Sign = codes "sign"
table_word table_fault.NoNumber = codes "no number"
table_word table_fault.Fraction = codes "fraction"
table_word table_fault.Large = codes "large"
table_word table_fault.Many = codes "many words"

-- a place in a table as editors know it, and what is wrong there; nothing of what stands in the table
abbrev pub table_line : (name : List ℕ) → (row column : ℕ) → TableFault → List ℕ
table_line name row column fault =
    codes "viaduct: table " ++ (shown name ++ (codes ":" ++ (decimal row ++ (codes ":" ++ (decimal column ++ (codes " " ++ (table_word fault ++ codes "\n")))))))

-- why a file does not tell what a host printed
abbrev pub report_word : ReportFault → List ℕ
report_word report_fault.Text = codes "text"
report_word report_fault.Cut = codes "cut"
report_word report_fault.Words = codes "words"

abbrev pub report_line : (name : List ℕ) → ReportFault → List ℕ
report_line name fault = codes "viaduct: report " ++ (shown name ++ (codes " " ++ (report_word fault ++ codes "\n")))

-- Ended has no line.
abbrev pub status_line : Status → List ℕ
status_line Ended = []
status_line Memory = memory_line
status_line Usage = codes "viaduct: usage\n"
status_line (ReadFault name) = name_line (codes "viaduct: read fault ") name
status_line WriteFault = codes "viaduct: write fault\n"
status_line (TooLong name limit) = sized_line (codes "viaduct: too long ") name limit
status_line (Syntax fault) = syntax_line fault
status_line (Names fault) = rule_line fault
status_line (Flow fault) = flow_line fault.number fault.check.offset
status_line (NoAssignment labelled) = codes "viaduct: no assignment\n"
status_line (Spent budget labelled) = offset_line (codes "viaduct: budget spent ") budget
status_line (InputText fault) = input_line fault
status_line (DealText name number offset) = deal_line name offset
status_line (ScheduleText fault) = schedule_line fault
status_line (BadDeal bad) = bad_deal_line bad
status_line (CertificateText offset) = offset_line (codes "viaduct: cert text at ") offset
status_line (CertificateRefused fault) = certificate_line fault
status_line (Host status) = host_line status
status_line (ChildFault hosts fault) = children_line hosts fault
status_line (NoHost name) = name_line (codes "viaduct: no host ") name
status_line (NotTwo count) = offset_line (codes "viaduct: hosts ") count
status_line (HasCommit slot) = offset_line (codes "viaduct: commitment ") slot
status_line (DealShort kind) = name_line (codes "viaduct: deal short ") (kind_name kind)
status_line (ViewDiffers place) = offset_line (codes "viaduct: view differs at ") place
status_line (DealUsed name) = name_line (codes "viaduct: deal used ") name
status_line (ShortKey name length) = sized_line (codes "viaduct: short key ") name length
status_line (Table name row column fault) = table_line name row column fault
status_line (Report name fault) = report_line name fault

-- the line goes to err, whole unless err failed
pub record Says (line : List ℕ) (before now : SinkView) : Type 0 where
  pub later : before.faults ≤ now.faults
  pub was_told : IsTrue now.told → IsTrue before.told
  pub part : IsTrue now.told → (count : ℕ) × (now.taken ≡ before.taken ++ take count line)
  pub whole : IsTrue now.told → Rose before.faults now.faults ⊎ (now.taken ≡ before.taken ++ line)
