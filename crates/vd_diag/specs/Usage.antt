-- The form of the command that a first word means.
use Rattle.std.specs.Prelude.{ℕ, List, [], ◌∷◌, codes}
use Rattle.vd_diag.specs.Parts.{in_table}

unfoldable pub usage_table : List (List ℕ × List ℕ)
usage_table =
    (codes "clear", codes "usage: viaduct clear SOURCE INPUTS\n")
    ∷ (codes "labels", codes "usage: viaduct labels SOURCE\n")
    ∷ (codes "choose", codes "usage: viaduct choose SOURCE [BUDGET]\n")
    ∷ (codes "draw", codes "usage: viaduct draw SOURCE [BUDGET]\n")
    ∷ (codes "reveals", codes "usage: viaduct reveals SOURCE [HOST] [BUDGET]\n")
    ∷ (codes "certify", codes "usage: viaduct certify SOURCE CERT\n")
    ∷ (codes "compile", codes "usage: viaduct compile SOURCE PREFIX [early] [BUDGET]\n")
    ∷ (codes "needs", codes "usage: viaduct needs FILE [each] [BUDGET]\n")
    ∷ (codes "rounds", codes "usage: viaduct rounds FILE [BUDGET]\n")
    ∷ (codes "column", codes "usage: viaduct column HOST FILE NAME[*FACTOR] ..\n")
    ∷ (codes "deal", codes "usage: viaduct deal HOSTS OWN MULS ANDS PAIRS KEY PREFIX\n")
    ∷ (codes "replay", codes "usage: viaduct replay SOURCE INPUTS PREFIX SCHEDULE [messages] [BUDGET]\n")
    ∷ (codes "check", codes "usage: viaduct check PROGRAM INPUTS DEAL\n")
    ∷ (codes "host", codes "usage: viaduct host PROGRAM INPUTS DEAL ADDR..\n")
    ∷ (codes "host-within", codes "usage: viaduct host-within SECONDS PROGRAM INPUTS DEAL ADDR..\n")
    ∷ (codes "report", codes "usage: viaduct report SOURCE HOST FILE [json]\n")
    ∷ (codes "run", codes "usage: viaduct run SOURCE INPUTS PREFIX SELF PORT\n")
    ∷ (codes "excuse", codes "usage: viaduct excuse SOURCE INPUTS INPUTS2 PREFIX HOST OUT [BUDGET]\n")
    ∷ (codes "depends", codes "usage: viaduct depends SOURCE HOSTS\n")
    ∷ (codes "influences", codes "usage: viaduct influences SOURCE HOST\n")
    ∷ (codes "gen", codes "usage: viaduct gen N\n")
    ∷ (codes "trial", codes "usage: viaduct trial N\n")
    ∷ []

unfoldable pub all_usages : List ℕ
all_usages = codes "usage: viaduct COMMAND WORD..; viaduct --help lists the commands\n"

abbrev pub usage_of : List ℕ → List ℕ
usage_of word = in_table usage_table word all_usages
