-- The language's grammar is LL(1), by the computed test.
use Rattle.std.proofs.Common.{◌≡◌, ℕ, true, false, List, refl}
use Rattle.vd_source_lexer.specs.Machine.{nullable, first, follow_last, is_ll1, firsts, follow_lasts, entered, IsLL1}
use Rattle.vd_source_lexer.specs.Trees.{one_empty}
use Rattle.vd_parser.specs.Language.{Symbol, rule, SOURCE, HOST, LABEL, FORM, CONJ, FATOM, FUN, PARAM, KIND, BLOCK, STMT, EXPR, BOR, BXOR, BAND, SHIFT, SUM, PROD, UNARY, ATOM}

abbrev pub F : Symbol → List ℕ
F s = firsts rule 10 s

abbrev pub E : Symbol → List ℕ
E s = follow_lasts rule F 10 s

same_firsts : (s : Symbol) → first F (rule s) ≡ F s
same_firsts SOURCE = refl
same_firsts HOST = refl
same_firsts LABEL = refl
same_firsts FORM = refl
same_firsts CONJ = refl
same_firsts FATOM = refl
same_firsts FUN = refl
same_firsts PARAM = refl
same_firsts KIND = refl
same_firsts BLOCK = refl
same_firsts STMT = refl
same_firsts EXPR = refl
same_firsts BOR = refl
same_firsts BXOR = refl
same_firsts BAND = refl
same_firsts SHIFT = refl
same_firsts SUM = refl
same_firsts PROD = refl
same_firsts UNARY = refl
same_firsts ATOM = refl

same_follow_lasts : (s : Symbol) → follow_last F E (rule s) ≡ E s
same_follow_lasts SOURCE = refl
same_follow_lasts HOST = refl
same_follow_lasts LABEL = refl
same_follow_lasts FORM = refl
same_follow_lasts CONJ = refl
same_follow_lasts FATOM = refl
same_follow_lasts FUN = refl
same_follow_lasts PARAM = refl
same_follow_lasts KIND = refl
same_follow_lasts BLOCK = refl
same_follow_lasts STMT = refl
same_follow_lasts EXPR = refl
same_follow_lasts BOR = refl
same_follow_lasts BXOR = refl
same_follow_lasts BAND = refl
same_follow_lasts SHIFT = refl
same_follow_lasts SUM = refl
same_follow_lasts PROD = refl
same_follow_lasts UNARY = refl
same_follow_lasts ATOM = refl

nonempty : (s : Symbol) → nullable (rule s) ≡ false
nonempty SOURCE = refl
nonempty HOST = refl
nonempty LABEL = refl
nonempty FORM = refl
nonempty CONJ = refl
nonempty FATOM = refl
nonempty FUN = refl
nonempty PARAM = refl
nonempty KIND = refl
nonempty BLOCK = refl
nonempty STMT = refl
nonempty EXPR = refl
nonempty BOR = refl
nonempty BXOR = refl
nonempty BAND = refl
nonempty SHIFT = refl
nonempty SUM = refl
nonempty PROD = refl
nonempty UNARY = refl
nonempty ATOM = refl

ll1 : (s : Symbol) → is_ll1 F E (rule s) ≡ true
ll1 SOURCE = refl
ll1 HOST = refl
ll1 LABEL = refl
ll1 FORM = refl
ll1 CONJ = refl
ll1 FATOM = refl
ll1 FUN = refl
ll1 PARAM = refl
ll1 KIND = refl
ll1 BLOCK = refl
ll1 STMT = refl
ll1 EXPR = refl
ll1 BOR = refl
ll1 BXOR = refl
ll1 BAND = refl
ll1 SHIFT = refl
ll1 SUM = refl
ll1 PROD = refl
ll1 UNARY = refl
ll1 ATOM = refl

enters : (s : Symbol) → entered rule F 10 s (F s) ≡ true
enters SOURCE = refl
enters HOST = refl
enters LABEL = refl
enters FORM = refl
enters CONJ = refl
enters FATOM = refl
enters FUN = refl
enters PARAM = refl
enters KIND = refl
enters BLOCK = refl
enters STMT = refl
enters EXPR = refl
enters BOR = refl
enters BXOR = refl
enters BAND = refl
enters SHIFT = refl
enters SUM = refl
enters PROD = refl
enters UNARY = refl
enters ATOM = refl

pub ones : (s : Symbol) → one_empty (rule s) ≡ true
ones SOURCE = refl
ones HOST = refl
ones LABEL = refl
ones FORM = refl
ones CONJ = refl
ones FATOM = refl
ones FUN = refl
ones PARAM = refl
ones KIND = refl
ones BLOCK = refl
ones STMT = refl
ones EXPR = refl
ones BOR = refl
ones BXOR = refl
ones BAND = refl
ones SHIFT = refl
ones SUM = refl
ones PROD = refl
ones UNARY = refl
ones ATOM = refl

pub language_ll1 : IsLL1 Symbol rule F E 10
language_ll1 = record { tables = record { firsts = same_firsts; follow_lasts = same_follow_lasts; nonempty = nonempty; ll1 = ll1 }; enters = enters }
