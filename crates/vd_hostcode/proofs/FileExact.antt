-- The whole file of a host's program is read exactly.
use Rattle.std.proofs.Common.{◌≡◌, ℕ, ◌-◌, ◌≤◌, Bool, true, false, cond, eqb, ◌||◌, List, [], ◌∷◌, ◌++◌, length, Option, Some, None, Ok, inr, refl, sym, ap, subst, ◌∙◌, arith, true≢false}
use Rattle.std.specs.Prelude.{codes}
use Rattle.std.proofs.lemmas.List.{append-nil}
use Rattle.std.proofs.lemmas.Bool.{eqb-true}
use Rattle.vd_base.specs.Lexical.{keywords}
use Rattle.vd_base_codec.specs.Reading.{first, ◌>>=◌, byte_at, literal_at, field_at, field}
use Rattle.vd_base_codec.specs.Exact.{IsBreak, IsAnything, IsExact, IsExactWhole}
use Rattle.vd_base_codec.specs.Digits.{key_text, key_at, IsKey}
use Rattle.vd_base_codec.proofs.Front.{done_exact, byte_exact, literal_exact, Picks, then_exact, AtMost, field_exact, whole_exact, key_exact, some_key}
use Rattle.vd_hostcode.specs.declared.host_text.words.Word.{Word}
use Rattle.vd_hostcode.specs.declared.host_text.words.Word.TheVariants as word
use Rattle.vd_hostcode.specs.declared.host_text.blocks.Block.{Block}
use Rattle.vd_hostcode.specs.declared.host_text.blocks.Arrays.{Arrays}
use Rattle.vd_hostcode.specs.declared.host_text.blocks.Arrays.TheVariants as arrays
use Rattle.vd_hostcode.specs.Words.{is_array_word}
use Rattle.vd_hostcode.specs.Text.{version, names_line, number_line, plan_line}
use Rattle.vd_hostcode.specs.Lines.{Line, lines_text, State, start, allows, after, is_last, may_array, may_stop, may_end, none_open, Leads}
use Rattle.vd_hostcode.specs.Reading.{lines_at}
use Rattle.vd_hostcode.specs.File.{File, has_arrays, file_text, from_version, IsFile}
use Rattle.vd_hostcode.specs.Heading.{with_byte, one_at, version_of, hosts_at, plan_at, file_at, file_read}
use Rattle.vd_hostcode.proofs.Many.{IsLineEnd}
use Rattle.vd_hostcode.proofs.LinesExact.{lines_exact, some_lines}
use Rattle.vd_hostcode.proofs.NamesExact.{FewNames, names_text, hosts_exact}

-- ---- a byte that stands for a value

record Codes {X : Type 0} (Fits : X → Type 0) (code : X → ℕ) (f : ℕ → Option X) : Type 0 where
  some : X
  fits : Fits some
  there : (b : ℕ) (x : X) → f b ≡ Some x → Fits x × (code x ≡ b)
  back : (x : X) → Fits x → f (code x) ≡ Some x

one_by : {X : Type 0} (Fits : X → Type 0) (code : X → ℕ) (f : ℕ → Option X) → Codes Fits code f → (b : ℕ) (bs : List ℕ) (r : Option X) → f b ≡ r → IsExact IsAnything Fits (λ x. code x ∷ []) (b ∷ bs) (with_byte b bs r)
one_by Fits code f table b bs None e = record {
  taken = [];
  split = refl;
  begun = table.some;
  fits = table.fits;
  rest = code table.some ∷ [];
  begins = refl;
  none = λ y behind more h k s g.
      let one : Some (code y) ≡ Some b = ap first s ∙ g in
      let same : code y ≡ b = cc in
      let both : Some y ≡ None = sym (table.back y h) ∙ ap f same ∙ e in
      cc;
}
one_by Fits code f table b bs (Some x) e =
    let h = table.there b x e in
    record {
      fits = h.0;
      split = ap (λ c. c ∷ bs) (sym h.1);
      only = λ y behind more k l s g.
          let same : code y ≡ code x = cc in
          let both : Some y ≡ Some x = sym (table.back y k) ∙ ap f same ∙ table.back x h.0 in
          let one : y ≡ x = cc in
          let over : behind ≡ more = cc in
          (one, over);
    }

one_exact : {X : Type 0} (Fits : X → Type 0) (code : X → ℕ) (f : ℕ → Option X) (bytes : List ℕ) → Codes Fits code f → IsExact IsAnything Fits (λ x. code x ∷ []) bytes (one_at f bytes)
one_exact Fits code f [] table = record {
  taken = [];
  split = refl;
  begun = table.some;
  fits = table.fits;
  rest = code table.some ∷ [];
  begins = refl;
  none = λ y behind more h k s g. let one : Some (code y) ≡ None = ap first s ∙ g in cc;
}
one_exact Fits code f (b ∷ bs) table = one_by Fits code f table b bs (f b) refl

-- ---- the plan

abbrev plan_text : List ℕ → List ℕ
plan_text key = key_text key ++ 10 ∷ []

picks_plan : Picks IsAnything IsKey key_text IsAnything IsKey plan_text (λ _. 10 ∷ []) (λ p. p)
picks_plan = record {
  part_fits = λ p h. h;
  split = λ p h. refl;
  some = λ p h. (p, (h, refl));
  break = λ p behind h k. tt;
}

plan_exact : (bytes : List ℕ) → IsExact IsAnything IsKey plan_line bytes (plan_at bytes)
unfolding plan_at
plan_exact bytes =
    literal_exact IsAnything IsKey plan_text (codes "\nplan ") bytes some_key.0 (λ mid. key_at mid >>= λ plan. byte_at 10 plan.1 >>= λ end. Ok (plan.0, end.1)) some_key.1
    (λ mid.
    then_exact IsAnything IsKey key_text IsAnything IsKey plan_text (λ _. 10 ∷ []) (λ p. p) picks_plan mid (key_at mid)
    (λ plan. byte_at 10 plan.1 >>= λ end. Ok (plan.0, end.1)) (key_exact mid)
    (λ plan over h.
    byte_exact IsAnything (λ p. IsKey p × (p ≡ plan)) (λ _. []) 10 over plan (λ last. Ok (plan, last)) (h, refl)
    (λ last. done_exact IsAnything (λ p. IsKey p × (p ≡ plan)) plan last (h, refl) (λ p g. g.1))))

-- ---- the version

abbrev IsVersion : Arrays → Type 0
IsVersion arrays.Never = Unit {0}
IsVersion arrays.Owed = Unit {0}
IsVersion arrays.Free = ⊥

abbrev version_byte : Arrays → ℕ
version_byte arrays.Never = 49
version_byte arrays.Owed = 50
version_byte arrays.Free = 0

second_there : (b : ℕ) (x : Arrays) (t : Bool) → eqb b 50 ≡ t → cond t (Some arrays.Owed) None ≡ Some x → IsVersion x × (version_byte x ≡ b)
second_there b x true e is = let same : arrays.Owed ≡ x = cc in subst (λ y. IsVersion y × (version_byte y ≡ b)) same (tt, sym (eqb-true b 50 e))
second_there b x false e is = absurd cc

version_there : (b : ℕ) (x : Arrays) (t : Bool) → eqb b 49 ≡ t → cond t (Some arrays.Never) (cond (eqb b 50) (Some arrays.Owed) None) ≡ Some x → IsVersion x × (version_byte x ≡ b)
version_there b x true e is = let same : arrays.Never ≡ x = cc in subst (λ y. IsVersion y × (version_byte y ≡ b)) same (tt, sym (eqb-true b 49 e))
version_there b x false e is = second_there b x (eqb b 50) refl is

version_back : (x : Arrays) → IsVersion x → version_of (version_byte x) ≡ Some x
version_back arrays.Never h = refl
version_back arrays.Owed h = refl
version_back arrays.Free h = absurd h

version_exact : (bytes : List ℕ) → IsExact IsAnything IsVersion (λ a. version_byte a ∷ []) bytes (one_at version_of bytes)
version_exact bytes = one_exact IsVersion version_byte version_of bytes (record { some = arrays.Never; fits = tt; there = λ b x e. version_there b x (eqb b 49) refl e; back = version_back })

version_is : (t : Bool) → version t ≡ version_byte (from_version t) ∷ []
unfolding version
version_is true = refl
version_is false = refl

is_version : (t : Bool) → IsVersion (from_version t)
is_version true = tt
is_version false = tt

-- ---- instructions on arrays, by the version

array_needs : (s : State) (w : Word) → is_array_word w ≡ true → allows s w ≡ true → may_array s.arrays ≡ true
array_needs s word.Const e h = absurd (true≢false (sym e))
array_needs s word.Copy e h = absurd (true≢false (sym e))
array_needs s (word.Apply o) e h = absurd (true≢false (sym e))
array_needs s word.Shl e h = absurd (true≢false (sym e))
array_needs s word.Shr e h = absurd (true≢false (sym e))
array_needs s word.Mux e h = absurd (true≢false (sym e))
array_needs s word.Own e h = absurd (true≢false (sym e))
array_needs s word.Triple e h = absurd (true≢false (sym e))
array_needs s word.Bits e h = absurd (true≢false (sym e))
array_needs s word.Pair e h = absurd (true≢false (sym e))
array_needs s word.Input e h = absurd (true≢false (sym e))
array_needs s word.Print e h = absurd (true≢false (sym e))
array_needs s word.Hash e h = absurd (true≢false (sym e))
array_needs s word.Same e h = absurd (true≢false (sym e))
array_needs s word.Zero e h = h
array_needs s word.Get e h = h
array_needs s word.Put e h = h
array_needs s word.Send e h = absurd (true≢false (sym e))
array_needs s word.Recv e h = absurd (true≢false (sym e))
array_needs s word.If e h = absurd (true≢false (sym e))
array_needs s word.Else e h = absurd (true≢false (sym e))
array_needs s word.For e h = absurd (true≢false (sym e))
array_needs s word.End e h = absurd (true≢false (sym e))

others_keep : (s : State) (w : Word) → is_array_word w ≡ false → (after s w).arrays ≡ s.arrays
others_keep s word.Const e = refl
others_keep s word.Copy e = refl
others_keep s (word.Apply o) e = refl
others_keep s word.Shl e = refl
others_keep s word.Shr e = refl
others_keep s word.Mux e = refl
others_keep s word.Own e = refl
others_keep s word.Triple e = refl
others_keep s word.Bits e = refl
others_keep s word.Pair e = refl
others_keep s word.Input e = refl
others_keep s word.Print e = refl
others_keep s word.Hash e = refl
others_keep s word.Same e = refl
others_keep s word.Zero e = absurd (true≢false e)
others_keep s word.Get e = absurd (true≢false e)
others_keep s word.Put e = absurd (true≢false e)
others_keep s word.Send e = refl
others_keep s word.Recv e = refl
others_keep s word.If e = refl
others_keep s word.Else e = refl
others_keep s word.For e = refl
others_keep s word.End e = refl

none_by : (s : State) (l : Line) (ls : List Line) (t : Bool) → is_array_word l.word ≡ t → s.arrays ≡ arrays.Never → Leads s (l ∷ ls) → ((after s l.word).arrays ≡ arrays.Never → has_arrays ls ≡ false) → (t || has_arrays ls) ≡ false
none_by s l ls true is e h rest = absurd (true≢false (sym (array_needs s l.word is h.0) ∙ ap may_array e))
none_by s l ls false is e h rest = rest (others_keep s l.word is ∙ e)

-- in the first version there is none
none_there : (s : State) (ls : List Line) → s.arrays ≡ arrays.Never → Leads s ls → has_arrays ls ≡ false
none_there s [] e h = refl
none_there s (l ∷ ls) e h = none_by s l ls (is_array_word l.word) refl e h (λ f. none_there (after s l.word) ls f h.1.1.1)

one_by_one : (s : State) (l : Line) (ls : List Line) (t : Bool) → is_array_word l.word ≡ t → s.arrays ≡ arrays.Owed → ((after s l.word).arrays ≡ arrays.Owed → has_arrays ls ≡ true) → (t || has_arrays ls) ≡ true
one_by_one s l ls true is e rest = refl
one_by_one s l ls false is e rest = rest (others_keep s l.word is ∙ e)

owed_by : (bs : List Block) (a : Arrays) → a ≡ arrays.Owed → may_end a bs ≡ true → none_open bs ≡ true → ⊥
owed_by [] a e h l = true≢false (sym h ∙ ap may_stop e)
owed_by (b ∷ bs) a e h l = true≢false (sym l)

owed_stays_open : (s : State) → s.arrays ≡ arrays.Owed → allows s word.End ≡ true → is_last s word.End ≡ true → ⊥
owed_stays_open s e h l = owed_by s.blocks s.arrays e h l

-- in the second there is one
one_there : (s : State) (ls : List Line) → s.arrays ≡ arrays.Owed → Leads s ls → has_arrays ls ≡ true
one_there s [] e h = absurd (owed_stays_open s e h.0 h.1)
one_there s (l ∷ ls) e h = one_by_one s l ls (is_array_word l.word) refl e (λ f. one_there (after s l.word) ls f h.1.1.1)

version_of_lines : (a : Arrays) (ls : List Line) → IsVersion a → Leads (start a) ls → from_version (has_arrays ls) ≡ a
version_of_lines arrays.Never ls v h = ap from_version (none_there (start arrays.Never) ls refl h)
version_of_lines arrays.Owed ls v h = ap from_version (one_there (start arrays.Owed) ls refl h)
version_of_lines arrays.Free ls v h = absurd v

-- ---- the whole file

abbrev kind : File → Arrays
kind f = from_version (has_arrays f.lines)

abbrev file_with : List (List ℕ) → ℕ → List ℕ → List Line → File
file_with hosts me plan lines = record { hosts = hosts; me = me; plan = plan; lines = lines }

is_file : (a : Arrays) (hosts : List (List ℕ)) (me : ℕ) (plan : List ℕ) (lines : List Line) → IsVersion a → FewNames hosts → me ≤ length hosts - 1 → IsKey plan → Leads (start a) lines
    → IsFile (file_with hosts me plan lines) × (kind (file_with hosts me plan lines) ≡ a)
is_file a hosts me plan lines v few below is_plan leads =
    let same = version_of_lines a lines v leads in (
      record {
        names = few.0.0;
        some = few.1;
        few = few.0.1;
        me = omega (arith, few.1, below);
        plan = is_plan;
        lines = subst (λ b. Leads (start b) lines) (sym same) leads;
      },
      same,
    )

few_of : (f : File) → IsFile f → FewNames f.hosts
few_of f h = ((h.names, h.few), h.some)

abbrev names_on : File → List ℕ
names_on f = names_text f.hosts ++ (number_line f.me ++ (plan_line f.plan ++ lines_text f.lines))

abbrev number_on : File → List ℕ
number_on f = number_line f.me ++ (plan_line f.plan ++ lines_text f.lines)

abbrev me_on : File → List ℕ
me_on f = field f.me ++ (plan_line f.plan ++ lines_text f.lines)

abbrev plan_on : File → List ℕ
plan_on f = plan_line f.plan ++ lines_text f.lines

abbrev lines_on : File → List ℕ
lines_on f = lines_text f.lines

abbrev version_on : File → List ℕ
version_on f = version (has_arrays f.lines) ++ (names_line f.hosts ++ number_on f)

-- what is known of the file behind each part
abbrev Of1 : Arrays → File → Type 0
Of1 a f = IsFile f × (kind f ≡ a)

abbrev Of2 : Arrays → List (List ℕ) → File → Type 0
Of2 a hosts f = Of1 a f × (f.hosts ≡ hosts)

abbrev Of3 : Arrays → List (List ℕ) → ℕ → File → Type 0
Of3 a hosts me f = Of2 a hosts f × (f.me ≡ me)

abbrev Of4 : Arrays → List (List ℕ) → ℕ → List ℕ → File → Type 0
Of4 a hosts me plan f = Of3 a hosts me f × (f.plan ≡ plan)

one_host : FewNames ((95 ∷ []) ∷ [])
unfolding keywords
one_host = (((refl, tt), omega arith), omega arith)

picks_version : Picks IsAnything IsVersion (λ a. version_byte a ∷ []) IsAnything IsFile version_on (λ f. names_line f.hosts ++ number_on f) kind
picks_version = record {
  part_fits = λ f h. is_version (has_arrays f.lines);
  split = λ f h. ap (λ bs. bs ++ (names_line f.hosts ++ number_on f)) (version_is (has_arrays f.lines));
  some = λ a h. let lines = some_lines (start a) in let plan = some_key in (file_with ((95 ∷ []) ∷ []) 0 plan.0 lines.0, is_file a ((95 ∷ []) ∷ []) 0 plan.0 lines.0 h one_host (omega arith) plan.1 lines.1);
  break = λ f behind h k. tt;
}

picks_hosts : (a : Arrays) → IsVersion a → Picks IsLineEnd FewNames names_text IsAnything (Of1 a) names_on number_on (λ f. f.hosts)
picks_hosts a v = record {
  part_fits = λ f h. few_of f h.0;
  split = λ f h. refl;
  some = λ hosts h. let lines = some_lines (start a) in let plan = some_key in (file_with hosts 0 plan.0 lines.0, (is_file a hosts 0 plan.0 lines.0 v h (omega arith) plan.1 lines.1, refl));
  break = λ f behind h k. refl;
}

picks_me : (a : Arrays) (hosts : List (List ℕ)) → IsVersion a → FewNames hosts → Picks IsBreak (AtMost (length hosts - 1)) field IsAnything (Of2 a hosts) me_on plan_on (λ f. f.me)
picks_me a hosts v few = record {
  part_fits = λ f h. omega (arith, h.0.0.me, ap length h.1);
  split = λ f h. refl;
  some = λ me h. let lines = some_lines (start a) in let plan = some_key in (file_with hosts me plan.0 lines.0, ((is_file a hosts me plan.0 lines.0 v few h plan.1 lines.1, refl), refl));
  break = λ f behind h k. inr refl;
}

picks_plans : (a : Arrays) (hosts : List (List ℕ)) (me : ℕ) → IsVersion a → FewNames hosts → me ≤ length hosts - 1 → Picks IsAnything IsKey plan_line IsAnything (Of3 a hosts me) plan_on lines_on (λ f. f.plan)
picks_plans a hosts me v few below = record {
  part_fits = λ f h. h.0.0.0.plan;
  split = λ f h. refl;
  some = λ plan h. let lines = some_lines (start a) in (file_with hosts me plan lines.0, (((is_file a hosts me plan lines.0 v few below h lines.1, refl), refl), refl));
  break = λ f behind h k. tt;
}

picks_code : (a : Arrays) (hosts : List (List ℕ)) (me : ℕ) (plan : List ℕ) → IsVersion a → FewNames hosts → me ≤ length hosts - 1 → IsKey plan
    → Picks IsAnything (Leads (start a)) lines_text IsAnything (Of4 a hosts me plan) lines_on (λ _. []) (λ f. f.lines)
picks_code a hosts me plan v few below is_plan = record {
  part_fits = λ f h. subst (λ b. Leads (start b) f.lines) h.0.0.0.1 h.0.0.0.0.lines;
  split = λ f h. sym (append-nil (lines_text f.lines));
  some = λ lines h. (file_with hosts me plan lines, ((((is_file a hosts me plan lines v few below is_plan h, refl), refl), refl), refl));
  break = λ f behind h k. tt;
}

same_file : (f : File) (hosts : List (List ℕ)) (me : ℕ) (plan : List ℕ) (lines : List Line) → f.hosts ≡ hosts → f.me ≡ me → f.plan ≡ plan → f.lines ≡ lines → f ≡ file_with hosts me plan lines
same_file f hosts me plan lines d e g h =
    ap (λ x. file_with x f.me f.plan f.lines) d ∙ ap (λ x. file_with hosts x f.plan f.lines) e ∙ ap (λ x. file_with hosts me x f.lines) g ∙ ap (file_with hosts me plan) h

code_exact : (a : Arrays) (hosts : List (List ℕ)) (me : ℕ) (plan bytes : List ℕ) → IsVersion a → FewNames hosts → me ≤ length hosts - 1 → IsKey plan
    → IsExact IsAnything (Of4 a hosts me plan) lines_on bytes (lines_at (length bytes) (start a) bytes >>= λ code. Ok (file_with hosts me plan code.0, code.1))
code_exact a hosts me plan bytes v few below is_plan =
    then_exact IsAnything (Leads (start a)) lines_text IsAnything (Of4 a hosts me plan) lines_on (λ _. []) (λ f. f.lines) (picks_code a hosts me plan v few below is_plan) bytes (lines_at (length bytes) (start a) bytes)
    (λ code. Ok (file_with hosts me plan code.0, code.1)) (lines_exact (length bytes) (start a) bytes (omega arith))
    (λ lines over h.
    done_exact IsAnything (λ f. Of4 a hosts me plan f × (f.lines ≡ lines)) (file_with hosts me plan lines) over
    (((((is_file a hosts me plan lines v few below is_plan h), refl), refl), refl), refl) (λ f g. same_file f hosts me plan lines g.0.0.0.1 g.0.0.1 g.0.1 g.1))

plans_exact : (a : Arrays) (hosts : List (List ℕ)) (me : ℕ) (bytes : List ℕ) → IsVersion a → FewNames hosts → me ≤ length hosts - 1
    → IsExact IsAnything (Of3 a hosts me) plan_on bytes (plan_at bytes >>= λ plan. lines_at (length plan.1) (start a) plan.1 >>= λ code. Ok (file_with hosts me plan.0 code.0, code.1))
plans_exact a hosts me bytes v few below =
    then_exact IsAnything IsKey plan_line IsAnything (Of3 a hosts me) plan_on lines_on (λ f. f.plan) (picks_plans a hosts me v few below) bytes (plan_at bytes)
    (λ plan. lines_at (length plan.1) (start a) plan.1 >>= λ code. Ok (file_with hosts me plan.0 code.0, code.1)) (plan_exact bytes) (λ plan mid h. code_exact a hosts me plan mid v few below h)

-- some file with these hosts
a_file : (a : Arrays) (hosts : List (List ℕ)) → IsVersion a → FewNames hosts → (f : File) × Of2 a hosts f
a_file a hosts v few = let lines = some_lines (start a) in let plan = some_key in (file_with hosts 0 plan.0 lines.0, (is_file a hosts 0 plan.0 lines.0 v few (omega arith) plan.1 lines.1, refl))

me_exact : (a : Arrays) (hosts : List (List ℕ)) (bytes : List ℕ) → IsVersion a → FewNames hosts → length hosts ≤ 4
    → IsExact IsAnything (Of2 a hosts) number_on bytes
    (literal_at (codes "\nme") bytes >>= λ next. field_at (length hosts - 1) next.1 >>= λ me. plan_at me.1 >>= λ plan. lines_at (length plan.1) (start a) plan.1 >>= λ code. Ok (file_with hosts me.0 plan.0 code.0, code.1))
me_exact a hosts bytes v few le =
    let some = a_file a hosts v few in
    literal_exact IsAnything (Of2 a hosts) me_on (codes "\nme") bytes some.0
    (λ next. field_at (length hosts - 1) next >>= λ me. plan_at me.1 >>= λ plan. lines_at (length plan.1) (start a) plan.1 >>= λ code. Ok (file_with hosts me.0 plan.0 code.0, code.1)) some.1
    (λ mid.
    then_exact IsBreak (AtMost (length hosts - 1)) field IsAnything (Of2 a hosts) me_on plan_on (λ f. f.me) (picks_me a hosts v few) mid (field_at (length hosts - 1) mid)
    (λ me. plan_at me.1 >>= λ plan. lines_at (length plan.1) (start a) plan.1 >>= λ code. Ok (file_with hosts me.0 plan.0 code.0, code.1)) (field_exact (length hosts - 1) mid (omega (arith, le)))
    (λ me over below. plans_exact a hosts me over v few below))

names_exact : (a : Arrays) (bytes : List ℕ) → IsVersion a
    → IsExact IsAnything (Of1 a) (λ f. names_line f.hosts ++ number_on f) bytes
    (literal_at (codes "\nhosts") bytes >>= λ line. hosts_at line.1 >>= λ hosts. literal_at (codes "\nme") hosts.1 >>= λ next. field_at (length hosts.0 - 1) next.1 >>= λ me. plan_at me.1 >>= λ plan.
    lines_at (length plan.1) (start a) plan.1 >>= λ code. Ok (file_with hosts.0 me.0 plan.0 code.0, code.1))
names_exact a bytes v =
    let some = a_file a ((95 ∷ []) ∷ []) v one_host in
    literal_exact IsAnything (Of1 a) names_on (codes "\nhosts") bytes some.0
    (λ line. hosts_at line >>= λ hosts. literal_at (codes "\nme") hosts.1 >>= λ next. field_at (length hosts.0 - 1) next.1 >>= λ me. plan_at me.1 >>= λ plan.
    lines_at (length plan.1) (start a) plan.1 >>= λ code. Ok (file_with hosts.0 me.0 plan.0 code.0, code.1)) some.1.0
    (λ mid.
    then_exact IsLineEnd FewNames names_text IsAnything (Of1 a) names_on number_on (λ f. f.hosts) (picks_hosts a v) mid (hosts_at mid)
    (λ hosts. literal_at (codes "\nme") hosts.1 >>= λ next. field_at (length hosts.0 - 1) next.1 >>= λ me. plan_at me.1 >>= λ plan.
    lines_at (length plan.1) (start a) plan.1 >>= λ code. Ok (file_with hosts.0 me.0 plan.0 code.0, code.1)) (hosts_exact mid)
    (λ hosts over few. me_exact a hosts over v few few.0.1))

pub file_exact : (bytes : List ℕ) → IsExact IsAnything IsFile file_text bytes (file_at bytes)
unfolding file_at
file_exact bytes =
    let some = a_file arrays.Never ((95 ∷ []) ∷ []) tt one_host in
    literal_exact IsAnything IsFile version_on (codes "viaduct-host ") bytes some.0
    (λ start_of. one_at version_of start_of >>= λ may. literal_at (codes "\nhosts") may.1 >>= λ line. hosts_at line.1 >>= λ hosts. literal_at (codes "\nme") hosts.1 >>= λ next. field_at (length hosts.0 - 1) next.1 >>= λ me.
    plan_at me.1 >>= λ plan. lines_at (length plan.1) (start may.0) plan.1 >>= λ code. Ok (file_with hosts.0 me.0 plan.0 code.0, code.1)) some.1.0.0
    (λ mid.
    then_exact IsAnything IsVersion (λ a. version_byte a ∷ []) IsAnything IsFile version_on (λ f. names_line f.hosts ++ number_on f) kind picks_version mid (one_at version_of mid)
    (λ may. literal_at (codes "\nhosts") may.1 >>= λ line. hosts_at line.1 >>= λ hosts. literal_at (codes "\nme") hosts.1 >>= λ next. field_at (length hosts.0 - 1) next.1 >>= λ me.
    plan_at me.1 >>= λ plan. lines_at (length plan.1) (start may.0) plan.1 >>= λ code. Ok (file_with hosts.0 me.0 plan.0 code.0, code.1)) (version_exact mid)
    (λ a over v. names_exact a over v))

pub file_read_exact : (bytes : List ℕ) → IsExactWhole IsFile file_text bytes (file_read bytes)
file_read_exact bytes = whole_exact IsAnything IsFile file_text bytes (file_at bytes) tt (file_exact bytes)
