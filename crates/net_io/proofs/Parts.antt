-- Some first elements of a list, and some more behind them.
use Rattle.std.proofs.Common.{◌≡◌, ◌<◌, ◌≤◌, ℕ, ◌+◌, ◌-◌, min, List, [], ◌++◌, Option, Some, length, take, drop, sym, ◌∙◌, ap, append_assoc, arith, length-drop}
use Rattle.std.proofs.Math.Seq.{take-add, take-append-add}
use Rattle.std.proofs.lemmas.List.{take_rest, drop-drop, drop_all, drop_at, append-nil, length-take-le}
use Rattle.std.proofs.lemmas.Grind.{common_steps}
use borrow.Rule.Slice.PartMut.{put_mid}
use Rattle.net_io.specs.Depot.{octets_of, IsRead, ChangesFirst, NowHolds}

-- what was written stays, and n more of the octets stand behind it
pub written_more : (i n : ℕ) (xs before : List ℕ) → (before ++ take i xs) ++ take n (take (length xs - i) (drop i xs)) ≡ before ++ take (i + n) xs
written_more i n xs before =
    append_assoc before (take i xs) (take n (take (length xs - i) (drop i xs)))
    ∙ ap (λ rest. before ++ (take i xs ++ take n rest)) (take_rest xs i)
    ∙ ap (λ part. before ++ part) (sym (take-add i n xs))

-- appended octets stay, and n more stand behind them
pub appended_more : (name bytes : List ℕ) (d n : ℕ) (a b c : List ℕ → Option (List ℕ)) → NowHolds name (octets_of (a name) ++ take d bytes) a b
    → NowHolds name (octets_of (b name) ++ take n (take (length bytes - d) (drop d bytes))) b c → NowHolds name (octets_of (a name) ++ take (d + n) bytes) a c
appended_more name bytes d n a b c before more = record {
  here =
      more.here
      ∙ ap (λ file. Some (octets_of file ++ take n (take (length bytes - d) (drop d bytes)))) before.here
      ∙ ap Some (written_more d n bytes (octets_of (a name)));
  elsewhere = λ other not_it. more.elsewhere other not_it ∙ before.elsewhere other not_it;
}

-- a read gives no more octets than the file has there
pub read_within : (file : Option (List ℕ)) (at n : ℕ) (buffer : List ℕ) → n ≤ length buffer → IsRead file at n buffer → n ≤ length (octets_of file) - at
read_within file at n buffer within read =
    let same : length (take n buffer) ≡ length (take n (drop at (octets_of file))) = ap length read in
    grind (arith, common_steps)

-- a read of a file that has stayed as it was
pub read_same : (now file : Option (List ℕ)) (at n : ℕ) (buffer : List ℕ) → now ≡ file → IsRead now at n buffer → IsRead file at n buffer
read_same now file at n buffer same read = read ∙ ap (λ f. take n (drop at (octets_of f))) same

-- what a read at the end of a file has found is all that the file has
pub read_count : (file : Option (List ℕ)) (at done : ℕ) (buffer : List ℕ) → done < length buffer → IsRead file at done buffer
    → length (octets_of file) ≤ at + done → done ≡ min (length buffer) (length (octets_of file) - at)
read_count file at done buffer within read end =
    let most = read_within file at done buffer (omega arith) read in omega arith

-- the buffer after a read into all of it behind the first d octets
joined : (d : ℕ) (buffer part : List ℕ) → d ≤ length buffer → put_mid d (length buffer - d) buffer part ≡ take d buffer ++ part
joined d buffer part within =
    let none : drop (length buffer - d) (drop d buffer) ≡ [] = drop_all (length buffer - d) (drop d buffer) (omega (arith, length-drop d buffer)) in
    ap (λ rest. take d buffer ++ (part ++ rest)) none ∙ ap (λ rest. take d buffer ++ rest) (append-nil part)

take-behind : (d n : ℕ) (buffer part : List ℕ) → d ≤ length buffer → take (d + n) (take d buffer ++ part) ≡ take d buffer ++ take n part
take-behind d n buffer part within =
    ap (λ k. take (k + n) (take d buffer ++ part)) (sym (length-take-le d buffer within)) ∙ take-append-add (take d buffer) part n

drop-behind : (d n : ℕ) (buffer part : List ℕ) → d ≤ length buffer → drop (d + n) (take d buffer ++ part) ≡ drop n part
drop-behind d n buffer part within =
    sym (drop-drop n d (take d buffer ++ part)) ∙ ap (drop n) (drop_at (take d buffer) part d (length-take-le d buffer within))

-- a read behind another goes on in the buffer
pub rest_more : (d n : ℕ) (old buffer part : List ℕ) → length buffer ≡ length old → ChangesFirst d old buffer
    → ChangesFirst n (take (length buffer - d) (drop d buffer)) part
    → ChangesFirst (d + n) old (put_mid d (length buffer - d) buffer part)
rest_more d n old buffer part len before more =
    let within : d ≤ length buffer = omega (arith, before.0) in
    let counted : length (take (length buffer - d) (drop d buffer)) ≡ length buffer - d = ap length (take_rest buffer d) ∙ length-drop d buffer in
    let fits : d + n ≤ length old = omega (arith, more.0, counted) in (
      fits,
      ap (drop (d + n)) (joined d buffer part within)
          ∙ drop-behind d n buffer part within
          ∙ more.1
          ∙ ap (drop n) (take_rest buffer d ∙ before.1)
          ∙ drop-drop n d old,
    )

pub octets_more : (file : Option (List ℕ)) (at d n : ℕ) (buffer part : List ℕ) → d ≤ length buffer → length part ≡ length buffer - d
    → IsRead file at d buffer → IsRead file (at + d) n part
    → IsRead file at (d + n) (put_mid d (length buffer - d) buffer part)
octets_more file at d n buffer part within len before more =
    let octets = octets_of file in
    ap (take (d + n)) (joined d buffer part within)
    ∙ take-behind d n buffer part within
    ∙ ap (λ first. first ++ take n part) before
    ∙ ap (λ rest. take d (drop at octets) ++ rest) (more ∙ ap (take n) (sym (drop-drop d at octets)))
    ∙ sym (take-add d n (drop at octets))
