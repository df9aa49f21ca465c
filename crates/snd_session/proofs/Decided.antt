-- What a call on chunks leaves decides which reply comes.
use Rattle.std.proofs.Common.{◌≡◌, ◌⊎◌, inl, inr, ℕ, List, Vec, Bool, true, Option, None, Some, Result, Ok, Err, IfOk, refl, sym, ap, ◌∙◌, subst, arith}
use Rattle.std.specs.Prelude.{IfSome, codes, is_none}
use Rattle.std.proofs.lemmas.Bool.{lt-ltb, le-ltb}
use Rattle.std.specs.declared.alloc.Global.{Global}
use Rattle.snd_disk.specs.Device.{AsksAtMost}
use Rattle.snd_disk.specs.State.{State}
use Rattle.snd_disk.specs.declared.disk.Disk.{Ghosts}
use Rattle.snd_disk.specs.declared.streams.Sink.{Ghosts as SinkMeaning}
use Rattle.snd_layout.specs.Shape.{Shape}
use Rattle.snd_layout.specs.declared.piece.Piece.{Piece}
use Rattle.snd_edits.specs.declared.error.GetError.{GetError}
use Rattle.snd_edits.specs.declared.error.GetError.TheVariants as get
use Rattle.snd_edits.specs.Known.{Known}
use Rattle.snd_file.specs.Handle.{IfOkStanding, known_of}
use Rattle.snd_edits.specs.Pieces.{GetLeaves, GivesBody, IsGetRefusal, MayGive, body_of, first_piece}
use Rattle.snd_file.specs.declared.handle.File.{File}
use Rattle.snd_edits.specs.declared.mode.Mode.{Ghosts as ModeGhosts}
use Rattle.snd_tags.specs.Found.{Answers, FindsInfo, body_given}
use Rattle.snd_edits.specs.TagsHeld.{read_as}
use Rattle.snd_edits.specs.declared.tag_error.TagError.{TagError}
use Rattle.snd_edits.specs.declared.tag_error.TagError.TheVariants.{Get, BadBody}
use Rattle.snd_session.specs.Answered.{IsWhole, SaysNothing, Sends, SendsText, gathered}
use Rattle.snd_rules.specs.Replies.{says}
use Rattle.snd_rules.specs.Rules.{chunk_of, finds_none, finds_texts, piece_refusal, refused_if}
use Rattle.snd_rules.specs.declared.reply.Reply.{Reply}
use Rattle.snd_rules.specs.declared.reply.StepFault.{StepFault}
use Rattle.snd_rules.specs.declared.reply.StepFault.TheVariants.{Memory}
use Rattle.snd_lines.specs.declared.refusal.Refusal.{Refusal}
use Rattle.snd_lines.specs.declared.refusal.Refusal.TheVariants.{BadInfo, ChunkTooLarge, NoSuchChunk}
use Rattle.snd_session.proofs.Tells.{Decides, IsWhy}

-- a text that was gathered is said, or there was no memory
pub gathered_reply : {O E : Type 0} (o : SinkMeaning O) (t : Result (Vec ℕ Global) E) (text : List ℕ) (r : Result Reply StepFault) (out out' : O) → IfOk t (λ v. v.items ≡ text) → SendsText o (gathered t) r out out'
    → Sends o (says text) r out out' ⊎ SaysNothing Memory r out out'
gathered_reply o (Ok v) text r out out' is sends = inl (subst (λ (x : List ℕ). Sends o (says x) r out out') is sends)
gathered_reply o (Err error) text r out out' is sends = inr sends

-- ---- the body of a chunk

piece_given : (o : Option Piece) → MayGive o → piece_refusal o ≡ None
piece_given None may = absurd may
piece_given (Some piece) may = ap (λ b. refused_if b ChunkTooLarge None) (le-ltb 65536 piece.len may)

piece_missing : (o : Option Piece) (finds : Refusal → Bool) → IsGetRefusal o get.NoSuchChunk → IsWhy (piece_refusal o) finds NoSuchChunk
piece_missing None finds is = inl refl
piece_missing (Some piece) finds is = absurd is

piece_large : (o : Option Piece) (finds : Refusal → Bool) → IsGetRefusal o get.ChunkTooLarge → IsWhy (piece_refusal o) finds ChunkTooLarge
piece_large None finds is = absurd is
piece_large (Some piece) finds is = inl (ap (λ b. refused_if b ChunkTooLarge None) (lt-ltb 65536 piece.len is))

pub decides_piece : {T : Type 0} (id : List ℕ) (bad : Refusal) (finds : Refusal → Bool) (old new : Known) (found : Result T TagError) → finds bad ≡ true → old.broken ≡ None
    → GetLeaves id old new (body_given found) → Decides (piece_refusal (first_piece id old.shape)) finds bad old new found
decides_piece id bad finds old new (Ok x) bad_found whole left = (piece_given _ left.1, left.2)
decides_piece id bad finds old new (Err BadBody) bad_found whole left = (inr (piece_given _ left.1, bad_found), left.2)
decides_piece id bad finds old new (Err (Get get.NoSuchChunk)) bad_found whole left = (piece_missing _ finds left.1, left.2)
decides_piece id bad finds old new (Err (Get get.ChunkTooLarge)) bad_found whole left = (piece_large _ finds left.1, left.2)
decides_piece id bad finds old new (Err (Get (get.DiskFault step))) bad_found whole left = left.2
decides_piece id bad finds old new (Err (Get get.Memory)) bad_found whole left = left.2
decides_piece id bad finds old new (Err (Get (get.Broken step))) bad_found whole left = absurd (let e : None ≡ Some step = sym whole ∙ left.0 in cc)

pub whole_piece : {T : Type 0} (id : List ℕ) (old new : Known) (found : Result T TagError) (error : TagError) → found ≡ Err error → old.broken ≡ None → GetLeaves id old new (body_given found) → IsWhole error ≡ true
whole_piece id old new found BadBody is whole left = refl
whole_piece id old new found (Get get.NoSuchChunk) is whole left = refl
whole_piece id old new found (Get get.ChunkTooLarge) is whole left = refl
whole_piece id old new found (Get (get.DiskFault step)) is whole left = refl
whole_piece id old new found (Get get.Memory) is whole left = refl
whole_piece {T} id old new found (Get (get.Broken step)) is whole left =
    absurd (let left : GetLeaves id old new (body_given {T = T} (Err (Get (get.Broken step)))) = subst (λ (x : Result T TagError). GetLeaves id old new (body_given x)) is left in
    let e : None ≡ Some step = sym whole ∙ left.0 in cc)

-- as a call on the body alone
abbrev pub as_found : Result (Vec ℕ Global) GetError → Result (List ℕ) TagError
as_found (Ok body) = Ok body.items
as_found (Err error) = Err (Get error)

body_held : (b : List ℕ) (o : Option Piece) (body : List ℕ) → MayGive o → IfSome o (λ piece. body ≡ body_of b piece) → read_as Some b o ≡ Ok body
body_held b None body may is = absurd may
body_held b (Some piece) body may is = rw (le-ltb 65536 piece.len may) (ap (λ x. Ok x) (sym is))

no_body : (b : List ℕ) (o : Option Piece) → IsGetRefusal o get.NoSuchChunk → read_as {T = List ℕ} Some b o ≡ Err (Get get.NoSuchChunk)
no_body b None is = refl
no_body b (Some piece) is = absurd is

large_body : (b : List ℕ) (o : Option Piece) → IsGetRefusal o get.ChunkTooLarge → read_as {T = List ℕ} Some b o ≡ Err (Get get.ChunkTooLarge)
large_body b None is = absurd is
large_body b (Some piece) is = rw (lt-ltb 65536 piece.len is) refl

pub body_answers : {D M : Type 0} {ghosts : Ghosts D} {mode : ModeGhosts M} (state : D → State) (file new : File D M ghosts mode) (id : List ℕ) (r : Result (Vec ℕ Global) GetError)
    → GetLeaves id (known_of file) (known_of new) r → IfOkStanding state file r (λ e body. GivesBody id e body.items) → Answers state file (chunk_of id) (as_found r)
body_answers state file new id (Ok body) left gives = λ e here.
    body_held e.bytes (first_piece id e.shape) body.items (subst (λ (s : Shape). MayGive (first_piece id s)) here.shape left.1) (gives e here)
body_answers state file new id (Err get.NoSuchChunk) left gives = λ e here. no_body e.bytes (first_piece id e.shape) (subst (λ (s : Shape). IsGetRefusal (first_piece id s) get.NoSuchChunk) here.shape left.1)
body_answers state file new id (Err get.ChunkTooLarge) left gives = λ e here. large_body e.bytes (first_piece id e.shape) (subst (λ (s : Shape). IsGetRefusal (first_piece id s) get.ChunkTooLarge) here.shape left.1)
body_answers state file new id (Err (get.DiskFault step)) left gives = λ e here. tt
body_answers state file new id (Err get.Memory) left gives = λ e here. tt
body_answers state file new id (Err (get.Broken step)) left gives = λ e here. tt

-- no body is bad, so a call on the body alone decides by itself
pub decides_body : (id : List ℕ) (old new : Known) (r : Result (Vec ℕ Global) GetError) → old.broken ≡ None → GetLeaves id old new r
    → Decides (piece_refusal (first_piece id old.shape)) finds_none NoSuchChunk old new (as_found r)
decides_body id old new (Ok body) whole left = (piece_given _ left.1, left.2)
decides_body id old new (Err get.NoSuchChunk) whole left = (piece_missing _ finds_none left.1, left.2)
decides_body id old new (Err get.ChunkTooLarge) whole left = (piece_large _ finds_none left.1, left.2)
decides_body id old new (Err (get.DiskFault step)) whole left = left.2
decides_body id old new (Err get.Memory) whole left = left.2
decides_body id old new (Err (get.Broken step)) whole left = absurd (let e : None ≡ Some step = sym whole ∙ left.0 in cc)

-- ---- the INFO list

abbrev pub list_refusal : Shape → Option Refusal
list_refusal h = refused_if (is_none (first_piece (codes "LIST") h)) NoSuchChunk None

some_list : (o : Option Piece) → (o ≡ None → ⊥) → refused_if (is_none o) NoSuchChunk None ≡ None
some_list None some = absurd (some refl)
some_list (Some piece) some = refl

any_list : (o : Option Piece) → IsWhy (refused_if (is_none o) NoSuchChunk None) finds_texts NoSuchChunk
any_list None = inl refl
any_list (Some piece) = inr (refl, refl)

pub decides_info : {T : Type 0} (old new : Known) (found : Result T TagError) → old.broken ≡ None → FindsInfo old new found → Decides (list_refusal old.shape) finds_texts BadInfo old new found
decides_info old new (Ok x) whole left = (some_list _ left.1, left.2)
decides_info old new (Err BadBody) whole left = (inr (some_list _ left.1, refl), left.2)
decides_info old new (Err (Get get.NoSuchChunk)) whole left = (any_list (first_piece (codes "LIST") old.shape), left.1)
decides_info old new (Err (Get get.ChunkTooLarge)) whole left = (inr (some_list _ left.1, refl), left.2)
decides_info old new (Err (Get (get.DiskFault step))) whole left = left.1
decides_info old new (Err (Get get.Memory)) whole left = left.2
decides_info old new (Err (Get (get.Broken step))) whole left = absurd (let e : None ≡ Some step = sym whole ∙ left.0 in cc)

pub whole_info : {T : Type 0} (old new : Known) (found : Result T TagError) (error : TagError) → found ≡ Err error → old.broken ≡ None → FindsInfo old new found → IsWhole error ≡ true
whole_info old new found BadBody is whole left = refl
whole_info old new found (Get get.NoSuchChunk) is whole left = refl
whole_info old new found (Get get.ChunkTooLarge) is whole left = refl
whole_info old new found (Get (get.DiskFault step)) is whole left = refl
whole_info old new found (Get get.Memory) is whole left = refl
whole_info {T} old new found (Get (get.Broken step)) is whole left =
    absurd (let left : FindsInfo {T = T} old new (Err (Get (get.Broken step))) = subst (λ (x : Result T TagError). FindsInfo old new x) is left in
    let e : None ≡ Some step = sym whole ∙ left.0 in cc)

-- ---- what is asked

pub asks_more : {D : Type 0} (state : D → State) (old new : D) → AsksAtMost state 65536 old new → AsksAtMost state 81920 old new
asks_more state old new asked = record { later = asked.later; most = omega (arith, asked.most) }

pub whole_body : (id : List ℕ) (old new : Known) (r : Result (Vec ℕ Global) GetError) (error : GetError) → r ≡ Err error → old.broken ≡ None → GetLeaves id old new r → IsWhole (Get error) ≡ true
whole_body id old new r get.NoSuchChunk is whole left = refl
whole_body id old new r get.ChunkTooLarge is whole left = refl
whole_body id old new r (get.DiskFault step) is whole left = refl
whole_body id old new r get.Memory is whole left = refl
whole_body id old new r (get.Broken step) is whole left =
    absurd (let left : GetLeaves {T = Vec ℕ Global} id old new (Err (get.Broken step)) = subst (λ (x : Result (Vec ℕ Global) GetError). GetLeaves id old new x) is left in
    let e : None ≡ Some step = sym whole ∙ left.0 in cc)
