-- The printed section of a host is read as an inputs file.
use Rattle.std.proofs.Common.{◌≡◌, ℕ, ◌+◌, ◌-◌, ◌<◌, ◌^◌, List, [], ◌∷◌, ◌++◌, length, replicate, slice_set, take, refl, sym, ap, ◌∙◌, subst, arith, append_assoc}
use Rattle.std.specs.Fmt.{decimal}
use Rattle.std.specs.List.{flat_map, prefix_len}
use Rattle.std.proofs.Math.Seq.{take-append_seam}
use Rattle.vd_base.specs.Lexical.{is_digit}
use Rattle.vd_base.specs.Words.{AreWords}
use Rattle.vd_report.specs.declared.token.TokenKind.TheVariants as kind
use Rattle.vd_report.specs.declared.token.Token.{Token}
use Rattle.vd_report.specs.Hosts.{host_of}
use Rattle.vd_report.specs.InputsText.{AreSections, GivesInputs, Numbers, no_number, no_section, one_number, one_section}
use Rattle.vd_report.specs.Lines.{number_field}
use Rattle.vd_report.specs.Tokens.{end_of, text_of, token_len, token_of, tokens_from}
use Rattle.vd_report.proofs.LineWords.{name_text, number_text}
use Rattle.vd_report.specs.SectionLines.{SectionsAreRead, row_line, words_in}
use Rattle.vd_report.proofs.WordTokens.{IsNameToken, name_token, number_token, word_token}

-- numbers with these values, from an offset on, and then the end
abbrev AreRead : (at : ℕ) → (text words : List ℕ) → Type 0
AreRead at text words = (end : ℕ) × Numbers (tokens_from at 0 text) words (end_of end ∷ [])

over_blank : (at : ℕ) (text words : List ℕ) → AreRead (at + 1) text words → AreRead at (32 ∷ text) words
unfolding tokens_from
over_blank at text words read = read

over_line : (at : ℕ) (text words : List ℕ) → AreRead (at + 1) text words → AreRead at (10 ∷ text) words
unfolding tokens_from
over_line at text words read = read

over_number : (at n : ℕ) (rest words : List ℕ) → n < 2 ^ 32 → prefix_len is_digit rest ≡ 0 → AreRead (at + length (decimal n)) rest words
    → AreRead at (decimal n ++ rest) (n ∷ words)
unfolding token_of
over_number at n rest words small stops read =
    let token = number_token n rest small stops in
    let whole : n < 2 ^ 64 = omega (arith, small) in
    let tokens = word_token (decimal n) rest at (number_text n whole) token.len in
    (read.0, subst (λ (ts : List Token). Numbers ts (n ∷ words) (end_of read.0 ∷ [])) (sym tokens) (one_number token.kind_is read.1))

-- what stands behind a number begins with no digit
no_digit : (numbers rest : List ℕ) → prefix_len is_digit (flat_map number_field numbers ++ 10 ∷ rest) ≡ 0
no_digit [] rest = refl
no_digit (n ∷ numbers) rest = refl

row_read : (row rest words : List ℕ) → AreWords row → ((at : ℕ) → AreRead at rest words) → (at : ℕ) → AreRead at (flat_map number_field row ++ 10 ∷ rest) (row ++ words)
row_read [] rest words are next at = over_line at rest words (next (at + 1))
row_read (n ∷ row) rest words are next at =
    let behind = row_read row rest words are.1 next (at + 1 + length (decimal n)) in
    let read = over_blank at (decimal n ++ (flat_map number_field row ++ 10 ∷ rest)) (n ∷ (row ++ words)) (over_number (at + 1) n (flat_map number_field row ++ 10 ∷ rest) (row ++ words) are.0 (no_digit row rest) behind) in
    subst (λ (text : List ℕ). AreRead at text (n ∷ (row ++ words))) (sym (append_assoc (number_field n) (flat_map number_field row) (10 ∷ rest))) read

split : (xs ys : List ℕ) → AreWords (xs ++ ys) → AreWords xs × AreWords ys
split [] ys are = (tt, are)
split (x ∷ xs) ys are = let rest = split xs ys are.1 in ((are.0, rest.0), rest.1)

rows_read : (rows : List (List ℕ)) → AreWords (words_in rows) → (at : ℕ) → AreRead at (flat_map row_line rows) (words_in rows)
unfolding tokens_from
rows_read [] are at = (at, no_number)
rows_read (row ∷ rows) are at =
    let both = split row (words_in rows) are in
    subst (λ (text : List ℕ). AreRead at text (row ++ words_in rows)) (sym (append_assoc (flat_map number_field row) (10 ∷ []) (flat_map row_line rows)))
    (row_read row (flat_map row_line rows) (words_in rows) both.0 (rows_read rows both.1) at)

colon_token : (at : ℕ) (text : List ℕ) → tokens_from at 0 (58 ∷ text) ≡ token_of at (58 ∷ text) ∷ tokens_from (at + 1) 0 text
unfolding tokens_from
colon_token at text = refl

colon_kind : (at : ℕ) (text : List ℕ) → (token_of at (58 ∷ text)).kind ≡ kind.Colon
unfolding token_of
colon_kind at text = refl

name_kind : (at : ℕ) (name rest : List ℕ) → IsNameToken name rest → (token_of at (name ++ rest)).kind ≡ kind.Name
unfolding token_of
name_kind at name rest token = token.kind_is

name_is : (name rest : List ℕ) → IsNameToken name rest → text_of (name ++ rest) (token_of 0 (name ++ rest)) ≡ name
unfolding token_of
name_is name rest token =
    let size : 0 + token_len (name ++ rest) - 0 ≡ length name = (let len = token.len in omega (arith, len)) in
    ap (λ (n : ℕ). take n (name ++ rest)) size ∙ take-append_seam name rest

pub sections_read : SectionsAreRead
sections_read host rows named are few hosts number found =
    let text = flat_map row_line rows in
    let rest = 58 ∷ 10 ∷ text in
    let token = name_token host rest named refl in
    let name = token_of 0 (host ++ rest) in
    let colon = token_of (0 + length host) rest in
    let numbers = over_line (0 + length host + 1) text (words_in rows) (rows_read rows are (0 + length host + 1 + 1)) in
    let tokens : tokens_from 0 0 (host ++ rest) ≡ name ∷ colon ∷ tokens_from (0 + length host + 1) 0 (10 ∷ text) =
    word_token host rest 0 (name_text host named) token.len ∙ ap (λ (ts : List Token). name ∷ ts) (colon_token (0 + length host) (10 ∷ text)) in
    let known = ap (λ (n : List ℕ). host_of hosts n) (name_is host rest token) ∙ found in
    subst (λ (bytes : List ℕ). GivesInputs hosts bytes (slice_set (replicate (length hosts) []) number (words_in rows))) (sym (append_assoc host (58 ∷ 10 ∷ []) text)) (record {
      sections = (number, words_in rows) ∷ [];
      are = subst (λ (ts : List Token). AreSections hosts (host ++ rest) [] ts ((number, words_in rows) ∷ [])) (sym tokens)
          (one_section (name_kind 0 host rest token) known refl (colon_kind (0 + length host) (10 ∷ text)) numbers.1 few (no_section refl));
      inputs_are = refl;
    })
