-- The refused token and those before it.
use Rattle.std.proofs.Common.{◌≡◌, ℕ, ◌+◌, ◌<◌, ◌≤◌, List, ◌∷◌, ◌++◌, inl, inr, length, take, get_or, Err, sym, ap, ◌∙◌, subst, arith, length-append}
use Rattle.vd_source_lexer.specs.Tokens.{Lexes, EndsOnce, BadFits, kinds}
use Rattle.vd_source_lexer.specs.declared.token.Token.{Token}
use Rattle.vd_source_lexer.proofs.Front.{lexes_once}
use Rattle.vd_parser.specs.Nesting.{NoneTooDeep}
use Rattle.vd_parser.specs.Whole.{NoEnd}
use Rattle.vd_parser.specs.Outcomes.{BeginSource, IsUnexpected, IsParse}
use Rattle.vd_parser.specs.declared.fault.ParseFault.TheVariants as fault
use Rattle.vd_parser.proofs.Front.{no_end, get_at, take_front}
use Rattle.vd_source_lexer.specs.declared.token.LexFault.{LexFault}
use Rattle.vd_source_lexer.specs.declared.token.LexFault.TheVariants.{BadByte}
use Rattle.vd_source_lexer.specs.declared.token.TokenKind.{TokenKind}
use Rattle.vd_diag_source.specs.Following.{following, IsTooLong}
use Rattle.vd_diag_source.specs.Syntax.{unexpected_sentence, refused_sentence}
use Rattle.vd_diag_source.specs.SyntaxRemarks.{Tells, TellsNumber}

number_within : (ts : List Token) (k o : ℕ) → IsUnexpected ts k o → k < length ts
number_within ts k o p =
    let len : length ts ≡ length p.before + length (p.token ∷ p.behind) = ap length p.all ∙ length-append p.before (p.token ∷ p.behind) in
    omega (arith, len, p.number)

front_is : (ts : List Token) (k o : ℕ) (p : IsUnexpected ts k o) → take k ts ≡ p.before
front_is ts k o p = ap (λ n. take n ts) p.number ∙ ap (take (length p.before)) p.all ∙ take_front p.before p.token p.behind

pub front_begins : (ts : List Token) (k o : ℕ) → IsUnexpected ts k o → BeginSource (take k ts)
front_begins ts k o p = subst BeginSource (sym (front_is ts k o p)) p.begins

pub front_shallow : (ts : List Token) (k o : ℕ) → IsUnexpected ts k o → NoneTooDeep (take k ts)
front_shallow ts k o p = subst NoneTooDeep (sym (front_is ts k o p)) p.shallow

pub front_no_end : (ts : List Token) (k : ℕ) → EndsOnce (kinds ts) → k < length ts → NoEnd (take k ts)
front_no_end ts k e low = no_end ts k e (omega (arith, low))

-- what is said of the token of this number is said of it in every account of the text's tokens
tells : (bytes : List ℕ) (ts : List Token) (number : ℕ) (d : Token) (sentence : List ℕ) → Lexes bytes 0 ts → Tells bytes (take number ts) (get_or ts number d) sentence → TellsNumber bytes number sentence
tells bytes ts number d sentence l h before token behind m e =
    let same : ts ≡ before ++ token ∷ behind = (lexes_once bytes).one_list ts (before ++ token ∷ behind) l m in
    let front : take number ts ≡ before = ap (λ n. take n ts) e ∙ ap (take (length before)) same ∙ take_front before token behind in
    let here : get_or ts number d ≡ token = ap (λ n. get_or ts n d) e ∙ ap (λ xs. get_or xs (length before) d) same ∙ get_at before token behind d in
    subst (λ t. Tells bytes before t sentence) here (subst (λ xs. Tells bytes xs (get_or ts number d) sentence) front h)

pub tells_known : (bytes : List ℕ) (ts : List Token) (number : ℕ) (d : Token) (sentence : List ℕ) (ks : List TokenKind) → Lexes bytes 0 ts → ks ≡ following (take number ts) → sentence ≡ unexpected_sentence bytes (get_or ts number d) ks → TellsNumber bytes number sentence
tells_known bytes ts number d sentence ks l k e = tells bytes ts number d sentence l (inl (e ∙ ap (unexpected_sentence bytes (get_or ts number d)) k))

pub tells_long : (bytes : List ℕ) (ts : List Token) (number : ℕ) (d : Token) (sentence : List ℕ) → Lexes bytes 0 ts → ((k : TokenKind) × IsTooLong (take number ts) k) → sentence ≡ refused_sentence bytes (get_or ts number d) → TellsNumber bytes number sentence
tells_long bytes ts number d sentence l long e = tells bytes ts number d sentence l (inr (long, e))

-- ---- where the bytes have the fault

-- the tokens of the text are those that the parser speaks of
pub found_refused : (bytes : List ℕ) (us : List Token) (k o : ℕ) → Lexes bytes 0 us → IsParse bytes (Err (fault.Unexpected k o)) → IsUnexpected us k o
found_refused bytes us k o m is = subst (λ zs. IsUnexpected zs k o) ((lexes_once bytes).one_list is.tokens us is.lexes m) is.holds

-- there are so many tokens
pub too_few : (bytes : List ℕ) (us : List Token) (k o : ℕ) → Lexes bytes 0 us → length us ≤ k → IsParse bytes (Err (fault.Unexpected k o)) → ⊥
too_few bytes us k o m few is = let low = number_within us k o (found_refused bytes us k o m is) in absurd (omega (arith, low))

-- and all bytes are those of tokens
pub no_bad : (bytes : List ℕ) (f : LexFault) (at k o : ℕ) → f ≡ BadByte at → BadFits bytes f → IsParse bytes (Err (fault.Unexpected k o)) → ⊥
no_bad bytes f at k o e b is = (lexes_once bytes).apart is.tokens at is.lexes (subst (BadFits bytes) e b)
