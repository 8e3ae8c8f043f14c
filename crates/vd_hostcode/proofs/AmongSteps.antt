-- The words of a list one after the other, as a loop tries them.
use Rattle.std.proofs.Common.{◌≡◌, ℕ, ◌+◌, ◌<◌, ◌≤◌, Bool, true, false, eqb, List, length, drop, get_or, Ok, Err, rules, sym, ap, ap₂, ◌∙◌, arith, eq-eqb}
use Rattle.std.specs.Prelude.{max}
use Rattle.std.specs.Ordering.{ord_max, nat_cmp}
use Rattle.std.proofs.lemmas.Bool.{ne_eqb}
use Rattle.std.proofs.lemmas.Grind.{common_steps}
use Rattle.vd_base_codec.specs.Reading.{Reading}
use Rattle.vd_hostcode.specs.declared.host_text.words.Word.{Word}
use Rattle.vd_hostcode.specs.Words.{spelling}
use Rattle.vd_hostcode.specs.Reading.{alike, among}
use Rattle.vd_hostcode.proofs.WordExact.{alike_within}
use Rattle.vd_hostcode.proofs.HostTextSteps.{among_found, among_over, among_skipped, among_passed}

pub shared_within : (text slice bytes : List ℕ) (shared : ℕ) → slice ≡ bytes → shared ≡ alike text slice → shared ≤ length bytes
shared_within text slice bytes shared b s = omega (arith, s, (alike_within text slice).1, ap length b)

shared_is : (text word slice bytes : List ℕ) (shared : ℕ) → text ≡ word → slice ≡ bytes → shared ≡ alike text slice → shared ≡ alike word bytes
shared_is text word slice bytes shared t b s = s ∙ ap₂ alike t b

pub word_here : (may : Word → Bool) (ws : List Word) (w : Word) (i far shared : ℕ) (text slice bytes left : List ℕ) (total : Reading Word) → i < length ws → may (get_or ws i w) ≡ true → text ≡ spelling (get_or ws i w) → slice ≡ bytes
    → shared ≡ alike text slice → shared ≡ length text → left ≡ drop shared bytes → among may (drop i ws) far bytes ≡ total → total ≡ Ok (get_or ws i w, left)
word_here may ws w i far shared text slice bytes left total lt m t b s full l so_far =
    let same : shared ≡ alike (spelling (get_or ws i w)) bytes = shared_is text (spelling (get_or ws i w)) slice bytes shared t b s in
    let whole : alike (spelling (get_or ws i w)) bytes ≡ length (spelling (get_or ws i w)) = sym same ∙ full ∙ ap length t in
    let rest : drop (alike (spelling (get_or ws i w)) bytes) bytes ≡ left = ap (λ n. drop n bytes) (sym same) ∙ sym l in
    sym so_far ∙ among_found may ws w i far bytes lt m (eq-eqb (alike (spelling (get_or ws i w)) bytes) (length (spelling (get_or ws i w))) whole) ∙ ap (λ over. Ok (get_or ws i w, over)) rest

pub word_not_here : (may : Word → Bool) (ws : List Word) (w : Word) (i far shared next : ℕ) (text slice bytes : List ℕ) (total : Reading Word) → i < length ws → may (get_or ws i w) ≡ true → text ≡ spelling (get_or ws i w) → slice ≡ bytes
    → shared ≡ alike text slice → (shared ≡ length text → ⊥) → next ≡ max far shared → far ≤ length bytes → among may (drop i ws) far bytes ≡ total → (next ≤ length bytes) × (among may (drop (i + 1) ws) next bytes ≡ total)
word_not_here may ws w i far shared next text slice bytes total lt m t b s other n le so_far =
    let same : shared ≡ alike (spelling (get_or ws i w)) bytes = shared_is text (spelling (get_or ws i w)) slice bytes shared t b s in
    let not_whole : eqb (alike (spelling (get_or ws i w)) bytes) (length (spelling (get_or ws i w))) ≡ false =
    ne_eqb (alike (spelling (get_or ws i w)) bytes) (length (spelling (get_or ws i w))) (λ e. other (same ∙ e ∙ ap length (sym t))) in
    let within = shared_within text slice bytes shared b s in
    let far_is : next ≡ max far (alike (spelling (get_or ws i w)) bytes) = n ∙ ap (max far) same in (
      omega (arith, n, le, within),
      ap (λ k. among may (drop (i + 1) ws) k bytes) far_is ∙ sym (among_passed may ws w i far bytes lt m not_whole) ∙ so_far,
    )

pub word_may_not : (may : Word → Bool) (ws : List Word) (w : Word) (i far next : ℕ) (bytes : List ℕ) (total : Reading Word) → i < length ws → may (get_or ws i w) ≡ false → next ≡ far → far ≤ length bytes → among may (drop i ws) far bytes ≡ total
    → (next ≤ length bytes) × (among may (drop (i + 1) ws) next bytes ≡ total)
word_may_not may ws w i far next bytes total lt m n le so_far = (
  omega (arith, n, le),
  ap (λ k. among may (drop (i + 1) ws) k bytes) n ∙ sym (among_skipped may ws w i far bytes lt m) ∙ so_far,
)

pub no_word : (may : Word → Bool) (ws : List Word) (i far : ℕ) (bytes left : List ℕ) (total : Reading Word) → length ws ≤ i → left ≡ drop far bytes → among may (drop i ws) far bytes ≡ total → total ≡ Err left
no_word may ws i far bytes left total le l so_far = sym so_far ∙ among_over may ws i far bytes le ∙ ap (λ over. Err over) (sym l)

pub max_is : (a b : ℕ) → ord_max nat_cmp a b ≡ max a b
max_is a b = first_of (search rules, grind (arith, common_steps))
