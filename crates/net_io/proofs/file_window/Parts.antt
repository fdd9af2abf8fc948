-- Octets that are read behind others.
use Rattle.std.proofs.Common.{append_assoc, ◌≡◌, ◌≤◌, ◌+◌, ℕ, List, ◌++◌, length, take, drop, ap, sym, ◌∙◌}
use Rattle.std.proofs.lemmas.List.{take-take, drop-drop, take-append-le}
use Rattle.std.proofs.Math.Seq.{take-add, take-append-add}
use Rattle.net_io.specs.file_window.Window.{IsFrom}
use Rattle.net_io.proofs.file_window.Law.{octets_of_a_window_are_the_files}

-- octets read into a buffer behind those that it had
pub read_behind_it : (have n most : ℕ) (into buffer part after rest read : List ℕ) → length into ≡ have → take have buffer ≡ into → n ≤ length part → have + n ≤ most
    → take n part ≡ read → take (have + n) (take most ((take have buffer ++ (part ++ after)) ++ rest)) ≡ into ++ read
read_behind_it have n most into buffer part after rest read count front fits le octets =
    take-take (have + n) most ((take have buffer ++ (part ++ after)) ++ rest) le
    ∙ ap (λ l. take (have + n) ((l ++ (part ++ after)) ++ rest)) front
    ∙ ap (take (have + n)) (append_assoc into (part ++ after) rest)
    ∙ ap (λ k. take (k + n) (into ++ ((part ++ after) ++ rest))) (sym count)
    ∙ take-append-add into ((part ++ after) ++ rest) n
    ∙ ap (λ l. into ++ take n l) (append_assoc part after rest)
    ∙ ap (λ l. into ++ l) (take-append-le n part (after ++ rest) fits ∙ octets)

-- octets of a window behind its first k, and those of one more read behind them, go on in the file
pub go_behind : (file : List ℕ) (at k n have : ℕ) (octets into : List ℕ) → IsFrom file at octets → k + have ≤ length octets
    → take (have + n) into ≡ take have (drop k octets) ++ take n (drop (at + (k + have)) file)
    → take (have + n) into ≡ take (have + n) (drop k (drop at file))
go_behind file at k n have octets into front le read =
    let rest = drop k (drop at file) in
    let held : take have rest ≡ take have (drop k octets) = octets_of_a_window_are_the_files file at k have octets front le in
    let behind : drop have rest ≡ drop (at + (k + have)) file = drop-drop have k (drop at file) ∙ drop-drop (k + have) at file in
    read ∙ sym (take-add have n rest ∙ ap (λ l. l ++ take n (drop have rest)) held ∙ ap (λ l. take have (drop k octets) ++ take n l) behind)

-- a window with more octets behind it stands in the file where it stood
pub grows : (file : List ℕ) (at n : ℕ) (octets new : List ℕ) → IsFrom file at octets → length new ≡ length octets + n → new ≡ octets ++ take n (drop (at + length octets) file)
    → IsFrom file at new
grows file at n octets new front count more =
    ap (λ k. take k (drop at file)) count ∙ take-add (length octets) n (drop at file)
    ∙ ap (λ l. l ++ take n (drop (length octets) (drop at file))) front
    ∙ ap (λ l. octets ++ take n l) (drop-drop (length octets) at file) ∙ sym more
