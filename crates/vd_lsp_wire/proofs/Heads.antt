-- What a reading of a head says of the bytes, and what is read of a frame.
use Rattle.std.proofs.Common.{rules, ◌≡◌, ◌≤◌, ◌<◌, ℕ, zero, suc, ◌+◌, ◌-◌, ◌*◌, ◌==◌, Bool, true, false, List, [], ◌∷◌, ◌++◌, length, take, drop, Ok, Err, refl, sym, ap, subst, ◌∙◌, append_assoc, arith}
use Rattle.std.specs.Prelude.{codes, nat_lt, nat_le, ◌&&◌}
use Rattle.std.proofs.lemmas.List.{append-nil, length-append}
use Rattle.vd_base.specs.Lexical.{is_digit}
use Rattle.vd_base_codec.specs.Reading.{Reading, ◌>>=◌, goes_on, longest_at, number_at, byte_at, literal_at, field_at, field}
use Rattle.vd_base_codec.specs.Exact.{IsBreak, IsExact}
use Rattle.vd_base_codec.proofs.Front.{AtMost, field_exact}
use Rattle.vd_lsp_wire.specs.Frames.{most_body, head, frame, BeginsWith, IsCut, IsFramed, IsUnread, closed_at, length_at, head_at}
use Rattle.vd_lsp_wire.specs.declared.framing.Framed.{Framed}
use Rattle.vd_lsp_wire.specs.declared.framing.Framed.TheVariants.{Short, Bad, Whole}

-- ---- words

pub literal_front : (word bytes left : List ℕ) (u : Unit {0}) → literal_at word bytes ≡ Ok (u, left) → bytes ≡ word ++ left
unfolding literal_at
literal_front [] bytes left u e = search rules
literal_front (w ∷ ws) [] left u e = search rules
literal_front (w ∷ ws) (b ∷ bs) left u e = search (rules, literal_front ws bs left u)

pub literal_reads : (word left : List ℕ) → literal_at word (word ++ left) ≡ Ok (tt, left)
unfolding literal_at
literal_reads [] left = refl
literal_reads (w ∷ ws) left = search (rules, literal_reads ws left)

pub literal_more : (word bytes more left : List ℕ) (b : ℕ) → literal_at word bytes ≡ Err (b ∷ left) → literal_at word (bytes ++ more) ≡ Err (b ∷ (left ++ more))
unfolding literal_at
literal_more [] bytes more left b e = search rules
literal_more (w ∷ ws) [] more left b e = search rules
literal_more (w ∷ ws) (c ∷ cs) more left b e = search (rules, literal_more ws cs more left b)

-- ---- numbers

no_digit : (most n : ℕ) → goes_on most n 13 ≡ false
no_digit most zero = refl
no_digit most (suc n) = search rules

longest_closed : (most n k : ℕ) (bytes more : List ℕ) → longest_at most n bytes ≡ (k, []) → longest_at most n (bytes ++ 13 ∷ more) ≡ (k, 13 ∷ more)
unfolding longest_at
longest_closed most n k [] more e = search (rules, no_digit most n)
longest_closed most n k (b ∷ bs) more e = search (rules, longest_closed most (n * 10 + (b - 48)) k bs more)

longest_more : (most n k c : ℕ) (bytes more left : List ℕ) → longest_at most n bytes ≡ (k, c ∷ left) → longest_at most n (bytes ++ more) ≡ (k, c ∷ (left ++ more))
unfolding longest_at
longest_more most n k c [] more left e = search rules
longest_more most n k c (b ∷ bs) more left e = search (rules, longest_more most (n * 10 + (b - 48)) k c bs more left)

alone : (n : ℕ) (r : Reading ℕ) → n ≤ most_body → IsExact IsBreak (AtMost most_body) field (field n) r → r ≡ Ok (n, [])
alone n (Ok x) h spells =
    let same : field n ++ [] ≡ field x.0 ++ x.1 = append-nil (field n) ∙ spells.split in
    let both = spells.only n [] x.1 h tt same refl in
    search (rules, both.0, both.1)
alone n (Err left) h stops =
    let same : field n ++ [] ≡ stops.taken ++ left = append-nil (field n) ∙ stops.split in
    absurd (stops.none n [] left h tt same refl)

field_alone : (n : ℕ) → n ≤ most_body → field_at most_body (field n) ≡ Ok (n, [])
field_alone n h = alone n (field_at most_body (field n)) h (field_exact most_body (field n) (omega arith))

field_closed : (n : ℕ) (bytes more : List ℕ) → field_at most_body bytes ≡ Ok (n, []) → field_at most_body (bytes ++ 13 ∷ more) ≡ Ok (n, 13 ∷ more)
field_closed n [] more e = search rules
field_closed n (b ∷ []) more e = search rules
field_closed n (b ∷ c ∷ cs) more e = search (rules, longest_closed most_body (c - 48) n cs more)

field_more : (n c : ℕ) (bytes more left : List ℕ) → field_at most_body bytes ≡ Ok (n, c ∷ left) → field_at most_body (bytes ++ more) ≡ Ok (n, c ∷ (left ++ more))
field_more n c [] more left e = search rules
field_more n c (b ∷ []) more left e = search rules
field_more n c (b ∷ d ∷ ds) more left e = search (rules, longest_more most_body (d - 48) n c ds more left)

field_bad : (c : ℕ) (bytes more left : List ℕ) → field_at most_body bytes ≡ Err (c ∷ left) → field_at most_body (bytes ++ more) ≡ Err (c ∷ (left ++ more))
field_bad c [] more left e = search rules
field_bad c (b ∷ []) more left e = search rules
field_bad c (b ∷ d ∷ ds) more left e = search rules

fields : (n : ℕ) (bytes left : List ℕ) (r : Reading ℕ) → r ≡ Ok (n, left) → IsExact IsBreak (AtMost most_body) field bytes r → (bytes ≡ field n ++ left) × (n ≤ most_body)
fields n bytes left r e exact =
    let spells = subst (IsExact IsBreak (AtMost most_body) field bytes) e exact in
    (spells.split, spells.fits)

field_front : (n : ℕ) (bytes left : List ℕ) → field_at most_body bytes ≡ Ok (n, left) → (bytes ≡ field n ++ left) × (n ≤ most_body)
field_front n bytes left e = fields n bytes left (field_at most_body bytes) e (field_exact most_body bytes (omega arith))

-- ---- heads

closed_front : (n k : ℕ) (bytes left : List ℕ) (r : Reading (Unit {0})) → literal_at (codes "\r\n\r\n") bytes ≡ r → (r >>= λ x. Ok (n, x.1)) ≡ Ok (k, left) → (n ≡ k) × (bytes ≡ codes "\r\n\r\n" ++ left)
closed_front n k bytes left (Err l) e h = search rules
closed_front n k bytes left (Ok (u, l)) e h = search (rules, literal_front (codes "\r\n\r\n") bytes l u e)

length_front : (k : ℕ) (bytes left : List ℕ) (r : Reading ℕ) → field_at most_body bytes ≡ r → (r >>= λ n. closed_at n.0 n.1) ≡ Ok (k, left)
    → (bytes ≡ field k ++ (codes "\r\n\r\n" ++ left)) × (k ≤ most_body)
length_front k bytes left (Err l) e h = search rules
length_front k bytes left (Ok (n, l)) e h =
    let part = field_front n bytes l e in
    let end = closed_front n k l left (literal_at (codes "\r\n\r\n") l) refl h in
    (part.0 ∙ ap (λ x. field n ++ x) end.1 ∙ ap (λ m. field m ++ (codes "\r\n\r\n" ++ left)) end.0, subst (λ m. m ≤ most_body) end.0 part.1)

named_front : (k : ℕ) (bytes left : List ℕ) (r : Reading (Unit {0})) → literal_at (codes "Content-Length:") bytes ≡ r → (r >>= λ name. length_at name.1) ≡ Ok (k, left)
    → (bytes ≡ codes "Content-Length:" ++ (field k ++ (codes "\r\n\r\n" ++ left))) × (k ≤ most_body)
named_front k bytes left (Err l) e h = search rules
named_front k bytes left (Ok (u, l)) e h =
    let front = literal_front (codes "Content-Length:") bytes l u e in
    let rest = length_front k l left (field_at most_body l) refl h in
    (front ∙ ap (λ x. codes "Content-Length:" ++ x) rest.0, rest.1)

joined : (name field end left : List ℕ) → name ++ (field ++ (end ++ left)) ≡ (name ++ (field ++ end)) ++ left
joined name field end left = ap (λ x. name ++ x) (sym (append_assoc field end left)) ∙ sym (append_assoc name (field ++ end) left)

pub head_front : (k : ℕ) (stream left : List ℕ) → head_at stream ≡ Ok (k, left) → (stream ≡ head k ++ left) × (k ≤ most_body)
unfolding head
head_front k stream left e =
    let found = named_front k stream left (literal_at (codes "Content-Length:") stream) refl e in
    (found.0 ∙ joined (codes "Content-Length:") (field k) (codes "\r\n\r\n") left, found.1)

closed_reads : (n : ℕ) (left : List ℕ) → closed_at n (codes "\r\n\r\n" ++ left) ≡ Ok (n, left)
closed_reads n left = ap (λ r. r >>= λ x. Ok (n, x.1)) (literal_reads (codes "\r\n\r\n") left)

length_reads : (n : ℕ) (left : List ℕ) → n ≤ most_body → length_at (field n ++ (codes "\r\n\r\n" ++ left)) ≡ Ok (n, left)
length_reads n left h =
    let read : field_at most_body (field n ++ (codes "\r\n\r\n" ++ left)) ≡ Ok (n, codes "\r\n\r\n" ++ left) = field_closed n (field n) (codes "\n\r\n" ++ left) (field_alone n h) in
    ap (λ r. r >>= λ x. closed_at x.0 x.1) read ∙ closed_reads n left

pub head_reads : (n : ℕ) (left : List ℕ) → n ≤ most_body → head_at (head n ++ left) ≡ Ok (n, left)
unfolding head
head_reads n left h =
    ap head_at (sym (joined (codes "Content-Length:") (field n) (codes "\r\n\r\n") left))
    ∙ ap (λ r. r >>= λ x. length_at x.1) (literal_reads (codes "Content-Length:") (field n ++ (codes "\r\n\r\n" ++ left)))
    ∙ length_reads n left h

closed_more : (n c : ℕ) (bytes more left : List ℕ) (r : Reading (Unit {0})) → literal_at (codes "\r\n\r\n") bytes ≡ r → (r >>= λ x. Ok (n, x.1)) ≡ Err (c ∷ left)
    → closed_at n (bytes ++ more) ≡ Err (c ∷ (left ++ more))
closed_more n c bytes more left (Ok x) e h = search rules
closed_more n c bytes more left (Err l) e h =
    let same : literal_at (codes "\r\n\r\n") bytes ≡ Err (c ∷ left) = e ∙ search rules in
    ap (λ r. r >>= λ x. Ok (n, x.1)) (literal_more (codes "\r\n\r\n") bytes more left c same)

length_more : (c : ℕ) (bytes more left : List ℕ) (r : Reading ℕ) → field_at most_body bytes ≡ r → (r >>= λ n. closed_at n.0 n.1) ≡ Err (c ∷ left)
    → length_at (bytes ++ more) ≡ Err (c ∷ (left ++ more))
unfolding literal_at
length_more c bytes more left (Err l) e h =
    let same : field_at most_body bytes ≡ Err (c ∷ left) = e ∙ search rules in
    ap (λ r. r >>= λ n. closed_at n.0 n.1) (field_bad c bytes more left same)
length_more c bytes more left (Ok (n, [])) e h = search rules
length_more c bytes more left (Ok (n, d ∷ ds)) e h =
    ap (λ r. r >>= λ x. closed_at x.0 x.1) (field_more n d bytes more ds e)
    ∙ closed_more n c (d ∷ ds) more left (literal_at (codes "\r\n\r\n") (d ∷ ds)) refl h

named_more : (c : ℕ) (bytes more left : List ℕ) (r : Reading (Unit {0})) → literal_at (codes "Content-Length:") bytes ≡ r → (r >>= λ name. length_at name.1) ≡ Err (c ∷ left)
    → head_at (bytes ++ more) ≡ Err (c ∷ (left ++ more))
named_more c bytes more left (Err l) e h =
    let same : literal_at (codes "Content-Length:") bytes ≡ Err (c ∷ left) = e ∙ search rules in
    ap (λ r. r >>= λ x. length_at x.1) (literal_more (codes "Content-Length:") bytes more left c same)
named_more c bytes more left (Ok (u, l)) e h =
    let split : bytes ++ more ≡ codes "Content-Length:" ++ (l ++ more) = ap (λ x. x ++ more) (literal_front (codes "Content-Length:") bytes l u e) ∙ append_assoc (codes "Content-Length:") l more in
    ap head_at split
    ∙ ap (λ r. r >>= λ x. length_at x.1) (literal_reads (codes "Content-Length:") (l ++ more))
    ∙ length_more c l more left (field_at most_body l) refl h

pub head_more : (c : ℕ) (stream more left : List ℕ) → head_at stream ≡ Err (c ∷ left) → head_at (stream ++ more) ≡ Err (c ∷ (left ++ more))
head_more c stream more left e = named_more c stream more left (literal_at (codes "Content-Length:") stream) refl e

-- ---- frames

pub frame_reads : (stream body : List ℕ) → length body ≤ most_body → (begins : BeginsWith stream body) → head_at stream ≡ Ok (length body, body ++ begins.0)
frame_reads stream body h begins =
    ap head_at (begins.1 ∙ append_assoc (head (length body)) body begins.0) ∙ head_reads (length body) (body ++ begins.0) h

drop_front : (front left : List ℕ) → drop (length front) (front ++ left) ≡ left
drop_front [] left = refl
drop_front (b ∷ bs) left = drop_front bs left

-- what is left stands at the end
pub tail_is : (front stream left : List ℕ) → stream ≡ front ++ left → drop (length stream - length left) stream ≡ left
tail_is front stream left e =
    let count : length (front ++ left) - length left ≡ length front = omega (arith, length-append front left) in
    ap (λ s. drop (length s - length left) s) e ∙ ap (λ n. drop n (front ++ left)) count ∙ drop_front front left

pub left_within : (n : ℕ) (stream bytes left : List ℕ) → bytes ≡ stream → head_at bytes ≡ Ok (n, left) → length left ≤ length stream
left_within n stream bytes left same e =
    let front = head_front n stream left (ap head_at (sym same) ∙ e) in
    omega (arith, ap (λ s. length s) front.0, length-append (head n) left)

parts : (n m : ℕ) (left rest : List ℕ) → ◌≡◌ {A = Reading ℕ} (Ok (n, left)) (Ok (m, rest)) → (n ≡ m) × (left ≡ rest)
parts n m left rest e =
    let pair : ◌≡◌ {A = ℕ × List ℕ} (n, left) (m, rest) = cc e in
    (ap (λ (p : ℕ × List ℕ). p.0) pair, ap (λ (p : ℕ × List ℕ). p.1) pair)

cut_framed : (n : ℕ) (stream left : List ℕ) (framed : Framed) → head_at stream ≡ Ok (n, left) → IsCut n left framed → IsFramed stream framed
cut_framed n stream left (Whole body rest) e cut =
    let front = head_front n stream left e in (
      (front.0 ∙ ap (λ x. head n ++ x) cut.0 ∙ ap (λ m. head m ++ (body.now ++ rest.now)) (sym cut.1) ∙ sym (append_assoc (head (length body.now)) body.now rest.now)),
      subst (λ m. m ≤ most_body) (sym cut.1) front.1,
    )
cut_framed n stream left Short e cut = λ body h begins.
    let same = parts n (length body) left (body ++ begins.0) (sym e ∙ frame_reads stream body h begins) in
    omega (arith, cut, same.0, ap (λ (s : List ℕ). length s) same.1, length-append body begins.0)
cut_framed n stream left Bad e cut = absurd cut

pub framed : (n count : ℕ) (stream bytes left behind : List ℕ) (found : Framed) → bytes ≡ stream → head_at bytes ≡ Ok (n, left)
    → count ≡ length left → behind ≡ drop (length stream - count) stream → IsCut n behind found → IsFramed stream found
framed n count stream bytes left behind found same e counted is cut =
    let read = ap head_at (sym same) ∙ e in
    let front = head_front n stream left read in
    let tail : behind ≡ left = is ∙ ap (λ k. drop (length stream - k) stream) counted ∙ tail_is (head n) stream left front.0 in
    cut_framed n stream left found read (subst (λ l. IsCut n l found) tail cut)

no_frame : (stream left : List ℕ) (found : Framed) → head_at stream ≡ Err left → IsUnread left found → IsFramed stream found
no_frame stream [] found e is =
    subst (IsFramed stream) (sym is) (λ body h begins. let wrong : Err [] ≡ Ok (length body, body ++ begins.0) = sym e ∙ frame_reads stream body h begins in cc wrong)
no_frame stream (c ∷ cs) found e is =
    subst (IsFramed stream) (sym is)
    (λ body more h begins. let wrong : Err (c ∷ (cs ++ more)) ≡ Ok (length body, body ++ begins.0) = sym (head_more c stream more cs e) ∙ frame_reads (stream ++ more) body h begins in cc wrong)

pub unframed : (stream bytes left rest : List ℕ) (found : Framed) → bytes ≡ stream → head_at bytes ≡ Err left → rest ≡ left → IsUnread rest found → IsFramed stream found
unframed stream bytes left rest found same e is unread = no_frame stream left found (ap head_at (sym same) ∙ e) (subst (λ l. IsUnread l found) is unread)
