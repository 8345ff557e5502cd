-- Input in pieces.
use Rattle.std.proofs.Common.{◌≡◌, ℕ, zero, suc, ◌<◌, ◌≤◌, List, [], ◌∷◌, ◌++◌, map, length, take, drop, ℤ, sym, refl, ap, ◌∙◌, subst, ap₂, arith, Bor}
use Rattle.std.specs.Iterator.{Drains}
use Rattle.std.specs.List.{flat_map}
use Rattle.std.proofs.lemmas.List.{nil_from_length, length-append, length-take-le, length-drop, take-append-drop, take_at, drop_at}
use Rattle.frame.specs.Frames.{pair_frame, frame_of}
use Rattle.frame.specs.Cut.{piece_length, Cuts, Pieces, Gives}
use Rattle.frame.specs.declared.cut.Frames.{Frames}
use Rattle.frame.specs.Theorems.{PiecesOfInput, PiecesAreWhole, FrameIsCutOff, FramesAreCutBack}
use Rattle.frame.proofs.Writing.{pair_frame_length}

-- ---- the first piece
piece_fits : (input : List ℕ) → piece_length input ≤ length input
piece_fits [] = omega arith
piece_fits (x ∷ []) = omega arith
piece_fits (high ∷ low ∷ following) = omega arith

piece_some : (input : List ℕ) → 1 ≤ length input → 1 ≤ piece_length input
piece_some [] h = absurd (omega arith)
piece_some (x ∷ []) h = omega arith
piece_some (high ∷ low ∷ following) h = omega arith

rest_shorter : (input piece rest : List ℕ) → 1 ≤ length input → Cuts input piece rest → length rest < length input
rest_shorter input piece rest h c =
    omega (arith, ap length c.1, length-drop (piece_length input) input, piece_fits input, piece_some input h)

-- ---- all pieces
exist_within : (k : ℕ) (input : List ℕ) → length input ≤ k → (pieces : List (List ℕ)) × Pieces input pieces
exist_within k [] h = ([], refl)
exist_within zero (x ∷ xs) h = absurd (omega arith)
exist_within (suc k) (x ∷ xs) h =
    let input = x ∷ xs in
    let n = piece_length input in
    let some : 1 ≤ length input = omega arith in
    let more = exist_within k (drop n input) (omega (arith, rest_shorter input (take n input) (drop n input) some (refl, refl))) in
    (take n input ∷ more.0, (drop n input, some, (refl, refl), more.1))

pub pieces_whole : PiecesAreWhole
pieces_whole input [] e = (sym e, tt)
pieces_whole input (piece ∷ pieces) (rest, some, cut, more) =
    let n = piece_length input in
    let whole = pieces_whole rest pieces more in (
      ap₂ (λ (p r : List ℕ). p ++ r) cut.0 (whole.0 ∙ cut.1) ∙ take-append-drop n input,
      (omega (arith, ap length cut.0, length-take-le n input (piece_fits input), piece_some input some), whole.1),
    )

same_pieces : (input : List ℕ) (pieces others : List (List ℕ)) → Pieces input pieces → Pieces input others → others ≡ pieces
same_pieces input [] [] h k = refl
same_pieces input [] (q ∷ others) h k = absurd (omega (arith, ap length h, k.1))
same_pieces input (p ∷ pieces) [] h k = absurd (omega (arith, ap length k, h.1))
same_pieces input (p ∷ pieces) (q ∷ others) h k =
    let more : Pieces h.0 others = subst (λ rest. Pieces rest others) (k.2.1 ∙ sym h.2.1) k.3 in
    ap₂ (λ (x : List ℕ) (xs : List (List ℕ)). x ∷ xs) (k.2.0 ∙ sym h.2.0) (same_pieces h.0 pieces others h.3 more)

pub pieces_of_input : PiecesOfInput
pieces_of_input input =
    let cut = exist_within (length input) input (omega arith) in
    (cut.0, cut.1, λ others more. same_pieces input cut.0 others cut.1 more)

pub given_pieces : (s : Frames) (given : List (Bor (List ℕ))) → Drains Gives s given → Pieces s.rest.now (map (λ piece. piece.now) given)
given_pieces s [] (u, (t, e, none)) = ap (λ r. r.rest.now) e ∙ nil_from_length t.rest.now none.0
given_pieces s (piece ∷ given) (u, (t, (j, step, more), none)) = (j.rest.now, step.0, step.1, given_pieces j given (u, (t, more, none)))

-- ---- frames
frame_length : (n : ℕ) (a b : ℤ) (rest : List ℕ) → length (pair_frame n a b) ≡ piece_length (pair_frame n a b ++ rest)
frame_length n a b rest = omega (arith, pair_frame_length n a b, length-append (pair_frame n a b) rest)

pub frame_cut_off : FrameIsCutOff
frame_cut_off n a b rest =
    let frame = pair_frame n a b in
    let l = frame_length n a b rest in
    (sym (take_at frame rest _ l), sym (drop_at frame rest _ l))

pub frames_cut_back : FramesAreCutBack
frames_cut_back [] = refl
frames_cut_back (p ∷ pairs) =
    let rest = flat_map frame_of pairs in
    (rest, omega arith, frame_cut_off p.order.value p.a p.b rest, frames_cut_back pairs)
