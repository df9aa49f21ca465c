-- The head of a file, as it is put together.
use Rattle.std.proofs.Common.{◌≡◌, ℕ, ◌+◌, ◌-◌, Bool, true, false, List, [], ◌∷◌, ◌++◌, length, replicate, sym, ap, ◌∙◌, append_assoc, arith}
use Rattle.std.proofs.lemmas.List.{append-nil, places, same_lists}
use Rattle.std.specs.Prelude.{codes}
use Rattle.snd_fields.specs.Field.{bytes_of}
use Rattle.snd_fields.specs.declared.field.Order.TheVariants.{Little}
use Rattle.snd_layout.specs.Params.{Parameters}
use Rattle.snd_layout.specs.Written.{written_format}
use Rattle.snd_layout.specs.declared.codec.Codec.{Codec}
use Rattle.snd_w64.specs.Layout.{id_end, raised}
use Rattle.snd_w64.specs.Written.{chunk_bytes, fact_bytes, has_fact, head_bytes, riff_end, start_of, w64_head}

zeros_more : (z n : ℕ) → replicate n z ++ (z ∷ []) ≡ replicate (n + 1) z
zeros_more z n = same_lists _ _ (grind (arith, places)) (λ k d lt. grind (arith, places))

-- one zero more
pub zero_put : (old new l : List ℕ) (n : ℕ) → l ≡ old ++ replicate n 0 → new ≡ l ++ 0 ∷ [] → new ≡ old ++ replicate (n + 1) 0
zero_put old new l n so_far put = put ∙ ap (λ (x : List ℕ). x ++ 0 ∷ []) so_far ∙ append_assoc old (replicate n 0) (0 ∷ []) ∙ ap (λ (x : List ℕ). old ++ x) (zeros_more 0 n)

pub head_put : (old id end first second third : List ℕ) (len : ℕ) → end ≡ id_end → first ≡ old ++ id → second ≡ first ++ end → third ≡ second ++ bytes_of Little 8 (len + 24) → third ≡ old ++ head_bytes id len
head_put old id end first second third len is one two three = rw (three, two, one, is) (simp append_assoc)

pub chunk_put : (old id body first second third : List ℕ) (up : ℕ) → up ≡ raised (length body) → first ≡ old ++ head_bytes id (length body) → second ≡ first ++ body → third ≡ second ++ replicate (up - length body) 0 → third ≡ old ++ chunk_bytes id body
chunk_put old id body first second third up is one two three = three ∙ ap (λ k. second ++ replicate (k - length body) 0) is ∙ ap (λ (l : List ℕ). l ++ replicate (raised (length body) - length body) 0) (two ∙ ap (λ (l : List ℕ). l ++ body) one)
    ∙ append_assoc (old ++ head_bytes id (length body)) body (replicate (raised (length body) - length body) 0) ∙ append_assoc old (head_bytes id (length body)) (body ++ replicate (raised (length body) - length body) 0)

pub fact_put : (codec : Codec) (has : Bool) (old new id body : List ℕ) → has ≡ has_fact codec → has ≡ true → id ≡ codes "fact" → body ≡ bytes_of Little 8 0 → new ≡ old ++ chunk_bytes id body → new ≡ old ++ fact_bytes codec
fact_put codec has old new id body is there named zero put =
    let has_it : has_fact codec ≡ true = sym is ∙ there in
    rw has_it (put ∙ ap (λ (l : List ℕ). old ++ chunk_bytes l body) named ∙ ap (λ (l : List ℕ). old ++ chunk_bytes (codes "fact") l) zero)

pub no_fact_put : (codec : Codec) (has : Bool) (old : List ℕ) → has ≡ has_fact codec → has ≡ false → old ≡ old ++ fact_bytes codec
no_fact_put codec has old is none =
    let has_none : has_fact codec ≡ false = sym is ∙ none in
    rw has_none (sym (append-nil old))

-- eight parts, each put behind the others
joined : (r e s w i f c d one two three four five six seven eight : List ℕ) → one ≡ [] ++ r → two ≡ one ++ e → three ≡ two ++ s → four ≡ three ++ w → five ≡ four ++ i → six ≡ five ++ f → seven ≡ six ++ c → eight ≡ seven ++ d
    → eight ≡ r ++ (e ++ (s ++ (w ++ (i ++ (f ++ (c ++ d))))))
joined r e s w i f c d one two three four five six seven eight a b g h j k l m = rw (m, l, k, j, h, g, b, a) (simp append_assoc)

pub whole_put : (p : Parameters) (start : ℕ) (format one two three four five six seven eight : List ℕ) → start ≡ start_of p.codec → format ≡ written_format p → one ≡ [] ++ codes "riff" → two ≡ one ++ riff_end
    → three ≡ two ++ bytes_of Little 8 start → four ≡ three ++ codes "wave" → five ≡ four ++ id_end → six ≡ five ++ chunk_bytes (codes "fmt ") format → seven ≡ six ++ fact_bytes p.codec → eight ≡ seven ++ head_bytes (codes "data") 0
    → eight ≡ w64_head p
unfolding w64_head
whole_put p start format one two three four five six seven eight at body a b c d e f g h =
    joined (codes "riff") riff_end (bytes_of Little 8 start) (codes "wave") id_end (chunk_bytes (codes "fmt ") format) (fact_bytes p.codec) (head_bytes (codes "data") 0) one two three four five six seven eight a b c d e f g h
    ∙ ap (λ n. codes "riff" ++ (riff_end ++ (bytes_of Little 8 n ++ (codes "wave" ++ (id_end ++ (chunk_bytes (codes "fmt ") format ++ (fact_bytes p.codec ++ head_bytes (codes "data") 0))))))) at
    ∙ ap (λ (l : List ℕ). codes "riff" ++ (riff_end ++ (bytes_of Little 8 (start_of p.codec) ++ (codes "wave" ++ (id_end ++ (chunk_bytes (codes "fmt ") l ++ (fact_bytes p.codec ++ head_bytes (codes "data") 0))))))) body
