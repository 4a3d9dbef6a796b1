-- Worked histories of the link. Words and fates were computed apart from this repository: by the reference implementation of PCG32
-- in C, `pcg32_srandom_r` of the key and the sequence 1, and by a program written from the published algorithm, which agree.
use Rattle.std.proofs.Common.{◌≡◌, ℕ, zero, suc, List, [], ◌∷◌, Some, None, true, false, refl}
use Rattle.it_types.specs.declared.id.PackNo.{PackNo}
use Rattle.rand_pcg.specs.Lcg.{Lcg}
use Rattle.spec_link.specs.declared.delivery.Delivery.{Delivery}
use Rattle.spec_link.specs.declared.fate.Fate.{Fate}
use Rattle.spec_link.specs.declared.fate.Fate.TheVariants.{Lost, Once, Twice}
use Rattle.spec_link.specs.declared.words.Words.{Words}
use Rattle.spec_link.specs.Fates.{after_words, generator_of, words}
use Rattle.spec_link.specs.Link.{PlainLink, first_due, is_idle, next_fate, opened_link, sent, taken}

-- ---- words

abbrev drawn : ℕ → ℕ → ℕ → Words
drawn fate first second = record { fate = fate; first = first; second = second }

-- the words of so many packets
abbrev words_of : ℕ → Lcg → List Words
words_of zero g = []
words_of (suc n) g = words g ∷ words_of n (after_words g)

pub words_of_key_0 : words_of 4 (generator_of 0)
    ≡ drawn 0x0f5deba9 0x184296dd 0x357643f4 ∷ drawn 0xf8e84c31 0xaac1ca89 0x4555f003 ∷ drawn 0x24d8217a 0x3e18cb9c 0x537b339d ∷ drawn 0xe981425e 0x059ec9a4 0x359def9d ∷ []
unfolding words after_words generator_of
words_of_key_0 = refl

pub words_of_key_1 : words_of 4 (generator_of 1)
    ≡ drawn 0xc9828f91 0x1592e274 0xc0262657 ∷ drawn 0xa5c2b6d3 0xaf811256 0x6c1c2879 ∷ drawn 0x30130b26 0x9cc21c33 0xd137ef42 ∷ drawn 0x908262ab 0xd24d7799 0xaa1118ab ∷ []
unfolding words after_words generator_of
words_of_key_1 = refl

pub words_of_last_key : words_of 4 (generator_of 0xffff_ffff_ffff_ffff)
    ≡ drawn 0xe2393051 0xd4ee9aa6 0x724075bd ∷ drawn 0xdbc6f13b 0xbfc7dd95 0x7b2d3585 ∷ drawn 0x07f0a249 0xdcb78f67 0x86cf0e77 ∷ drawn 0xaa9871fa 0x709767b6 0xdeae0880 ∷ []
unfolding words after_words generator_of
words_of_last_key = refl

-- ---- fates

abbrev packet : ℕ → PackNo
packet number = record { 0 = number }

-- the fates of so many packets
abbrev fates_of : ℕ → PlainLink → List Fate
fates_of zero l = []
fates_of (suc n) l = next_fate l ∷ fates_of n (record l { generator = after_words l.generator })

-- three of sixteen are lost, two delivered twice, and none is later than 7 ticks
pub fates_of_key_1 : fates_of 10 (opened_link 1 3 2 7)
    ≡ Lost ∷ Twice 6 1 ∷ Once 3 ∷ Once 1 ∷ Once 1 ∷ Once 4 ∷ Once 4 ∷ Lost ∷ Once 2 ∷ Once 1 ∷ []
unfolding words after_words generator_of
fates_of_key_1 = refl

pub fates_of_last_key : fates_of 10 (opened_link 0xffff_ffff_ffff_ffff 4 8 7)
    ≡ Lost ∷ Twice 5 5 ∷ Twice 7 7 ∷ Twice 6 0 ∷ Twice 5 6 ∷ Lost ∷ Once 7 ∷ Once 3 ∷ Lost ∷ Lost ∷ []
unfolding words after_words generator_of
fates_of_last_key = refl

-- no packet is lost, doubled or late
pub fates_of_a_sound_link : fates_of 5 (opened_link 1 0 0 0) ≡ Once 0 ∷ Once 0 ∷ Once 0 ∷ Once 0 ∷ Once 0 ∷ []
unfolding words after_words generator_of
fates_of_a_sound_link = refl

-- every packet is lost
pub fates_of_a_broken_link : fates_of 3 (opened_link 1 16 0 1000) ≡ Lost ∷ Lost ∷ Lost ∷ []
unfolding words after_words generator_of
fates_of_a_broken_link = refl

-- ---- deliveries

abbrev copy_of : ℕ → ℕ → ℕ → Delivery
copy_of number copy due = record { due = due; packet = packet number; copy = copy }

-- packets 0, 1 and 2 at tick 10, packet 3 at tick 11
abbrev four_sent : PlainLink
four_sent = sent (packet 3) 11 (sent (packet 2) 10 (sent (packet 1) 10 (sent (packet 0) 10 (opened_link 1 3 2 7))))

-- packet 0 is lost, the second copy of packet 1 comes before the first, and packet 3 overtakes packet 2
pub second_copy_first : four_sent.waiting ≡ copy_of 1 2 11 ∷ copy_of 3 1 12 ∷ copy_of 2 1 13 ∷ copy_of 1 1 16 ∷ []
unfolding sent words after_words generator_of
second_copy_first = refl

pub nothing_due_at_10 : first_due 10 four_sent ≡ None
unfolding sent words after_words generator_of
nothing_due_at_10 = refl

pub packet_1_due_at_11 : first_due 11 four_sent ≡ Some (packet 1)
unfolding sent words after_words generator_of
packet_1_due_at_11 = refl

-- a late look finds the same delivery first
pub packet_1_first_at_20 : first_due 20 four_sent ≡ Some (packet 1)
unfolding sent words after_words generator_of
packet_1_first_at_20 = refl

pub nothing_taken_at_10 : taken 10 four_sent ≡ four_sent
unfolding sent words after_words generator_of
nothing_taken_at_10 = refl

pub packet_3_is_next : first_due 12 (taken 11 four_sent) ≡ Some (packet 3)
unfolding sent words after_words generator_of
packet_3_is_next = refl

pub one_is_left : is_idle (taken 20 (taken 20 (taken 20 four_sent))) ≡ false
unfolding sent words after_words generator_of
one_is_left = refl

pub none_is_left : is_idle (taken 20 (taken 20 (taken 20 (taken 20 four_sent)))) ≡ true
unfolding sent words after_words generator_of
none_is_left = refl

-- of two copies that are due at one tick, the first comes first; packet 9 was lost
pub at_one_tick : (sent (packet 4) 0 (sent (packet 9) 0 (opened_link 0xffff_ffff_ffff_ffff 4 8 7))).waiting ≡ copy_of 4 1 5 ∷ copy_of 4 2 5 ∷ []
unfolding sent words after_words generator_of
at_one_tick = refl

-- of two packets that are due at one tick, the one with the lower number comes first, though it was sent later
pub lower_number_first : (sent (packet 4) 2 (sent (packet 9) 0 (sent (packet 8) 0 (sent (packet 7) 0 (opened_link 1 3 2 7))))).waiting
    ≡ copy_of 8 2 1 ∷ copy_of 4 1 3 ∷ copy_of 9 1 3 ∷ copy_of 8 1 6 ∷ []
unfolding sent words after_words generator_of
lower_number_first = refl

-- a packet's number may be given again: its copies come as often
pub same_number_again : (sent (packet 2) 0 (sent (packet 2) 0 (opened_link 1 0 0 0))).waiting ≡ copy_of 2 1 0 ∷ copy_of 2 1 0 ∷ []
unfolding sent words after_words generator_of
same_number_again = refl
