-- Histories that an independent program played: segments, times and calls at random.
use Rattle.std.proofs.Common.{◌≡◌, true, false, [], ◌∷◌, ◌++◌, Some, None, replicate, refl}
use Rattle.spec_tcp.specs.declared.state.State.TheVariants.{SynSent, Established, FinWait1, FinWait2, LastAck, TimeWait, Closed, Broken}
use Rattle.spec_tcp.specs.Arrival.{arrive}
use Rattle.spec_tcp.specs.Emission.{emitted, after_emission}
use Rattle.spec_tcp.specs.Opening.{open_active, open_passive}
use Rattle.spec_tcp.specs.Acts.{Opens, Arrives, Ticks, Commits, Takes, Shuts, Closes, Aborts, at}
use Rattle.spec_tcp.proofs.Play.{play, seg, goes, told, shown, mine, peer}

pub case_21 : shown (play (
    at 0 Opens ∷ at 0 (Arrives (seg 2169320425 2057786382 17 0 None (replicate 128 226)))
    ∷ at 0 (Arrives (seg 2169319913 2057786382 16 100 None (replicate 140 120))) ∷ at 1 (Arrives (seg 2169320052 2057786381 24 500 None []))
    ∷ at 1 (Commits (178 ∷ 170 ∷ 177 ∷ 156 ∷ 125 ∷ [])) ∷ at 1 (Commits (replicate 150 255))
    ∷ at 301 (Arrives (seg 2169320063 2057786482 17 0 None (replicate 128 74))) ∷ at 301 (Commits (replicate 300 241))
    ∷ at 301 (Commits (189 ∷ 251 ∷ 135 ∷ 199 ∷ 150 ∷ 27 ∷ 59 ∷ 147 ∷ 46 ∷ 249 ∷ 166 ∷ 70 ∷ 76 ∷ 159 ∷ 157 ∷ 199 ∷ 57 ∷ 138 ∷ 226 ∷ 118 ∷ 25 ∷ 191
    ∷ 217 ∷ 54 ∷ 242 ∷ 111 ∷ 186 ∷ 101 ∷ 23 ∷ 253 ∷ 155 ∷ 169 ∷ 222 ∷ 95 ∷ 9 ∷ 217 ∷ 102 ∷ 83 ∷ 16 ∷ 111 ∷ []))
    ∷ at 1301 Ticks ∷ at 3301 Ticks ∷ at 7301 Ticks ∷ at 15301 Ticks ∷ at 15301 (Arrives (seg 2169320053 2057786484 16 500 None (147 ∷ [])))
    ∷ at 31301 Ticks ∷ at 31301 (Commits (replicate 300 103))
    ∷ at 31601 (Arrives (seg 2169320056 2057786432 24 500 None (18 ∷ 125 ∷ 248 ∷ 196 ∷ 216 ∷ [])))
    ∷ at 31601 (Arrives (seg 2169320253 2057786381 0 0 None [])) ∷ at 31601 (Commits (replicate 300 125)) ∷ at 31601 Shuts
    ∷ at 31602 (Arrives (seg 2169320053 2057786482 20 65535 None []))
    ∷ at 31609 (Arrives (seg 2169320425 2057786481 29 100 None (162 ∷ 199 ∷ 0 ∷ 190 ∷ 14 ∷ 212 ∷ 239 ∷ 190 ∷ 51 ∷ 151 ∷ 56 ∷ 166 ∷ 165 ∷ 18 ∷ 232
    ∷ 239 ∷ 145 ∷ 205 ∷ 113 ∷ 40 ∷ [])))
    ∷ at 31609 (Arrives (seg 2169320013 2057786483 16 30 None (replicate 70 124))) ∷ at 31609 (Takes 1000) ∷ at 31609 Closes
    ∷ at 31909 (Arrives (seg 2352954840 2057786483 25 500 None (replicate 140 229)))
    ∷ at 31909 (Arrives (seg 2169320056 2057786382 16 0 None (replicate 140 117)))
    ∷ at 31909 (Arrives (seg 2169320056 2057786483 16 100 None (replicate 70 252)))
    ∷ at 31909 (Arrives (seg 2169320564 2057786483 18 0 None (replicate 140 191))) ∷ [])
    (open_passive mine peer 2057786381 (seg 2169319912 0 2 200 None (122 ∷ 122 ∷ [])) 512 512))
    ≡ told Broken 101 102 0 [] 141 512 None false (
    (goes 2057786381 2169319913 18 512 (Some 1460) [] ∷ []) ∷ (goes 2057786382 2169319913 16 512 None [] ∷ [])
    ∷ (goes 2057786382 2169320053 16 372 None [] ∷ []) ∷ (goes 2057786382 2169320053 16 372 None [] ∷ [])
    ∷ (goes 2057786382 2169320053 24 372 None (178 ∷ 170 ∷ 177 ∷ 156 ∷ 125 ∷ []) ∷ [])
    ∷ (goes 2057786387 2169320053 16 372 None (replicate 95 255) ∷ []) ∷ (goes 2057786482 2169320053 16 372 None [] ∷ []) ∷ [] ∷ []
    ∷ (goes 2057786482 2169320053 16 372 None (255 ∷ []) ∷ []) ∷ (goes 2057786482 2169320053 16 372 None (255 ∷ []) ∷ [])
    ∷ (goes 2057786482 2169320053 16 372 None (255 ∷ []) ∷ []) ∷ (goes 2057786482 2169320053 16 372 None (255 ∷ []) ∷ [])
    ∷ (goes 2057786483 2169320053 16 372 None [] ∷ []) ∷ (goes 2057786482 2169320053 16 372 None (255 ∷ []) ∷ []) ∷ []
    ∷ (goes 2057786483 2169320053 16 372 None [] ∷ []) ∷ [] ∷ [] ∷ [] ∷ [] ∷ [] ∷ [] ∷ [] ∷ [] ∷ [] ∷ [] ∷ [] ∷ [] ∷ [])
unfolding arrive emitted after_emission
case_21 = refl

pub case_22 : shown (play (
    at 0 Opens ∷ at 0 (Arrives (seg 3176529069 65537 18 0 (Some 64) [])) ∷ at 7 (Commits (92 ∷ 57 ∷ 31 ∷ 167 ∷ 171 ∷ []))
    ∷ at 307 (Arrives (seg 3176529270 3906089723 17 0 None (221 ∷ []))) ∷ at 1007 Ticks
    ∷ at 1007 (Arrives (seg 3176529070 65539 24 0 None (50 ∷ 221 ∷ 206 ∷ 29 ∷ 100 ∷ []))) ∷ at 1014 (Arrives (seg 3176529325 65537 24 0 None []))
    ∷ at 1014 (Arrives (seg 3176529325 65539 0 0 None [])) ∷ at 1314 (Commits (replicate 1 97))
    ∷ at 1314 (Arrives (seg 3176529070 65538 16 100 None [])) ∷ at 1314 (Commits (replicate 150 136)) ∷ at 2314 Ticks ∷ at 4314 Ticks
    ∷ at 8314 Ticks ∷ at 16314 Ticks ∷ at 16314 Shuts ∷ at 16314 Closes
    ∷ at 16314 (Arrives (seg 3176529331 65539 25 100 None (149 ∷ 23 ∷ 122 ∷ 123 ∷ 181 ∷ 235 ∷ 190 ∷ 63 ∷ 116 ∷ 178 ∷ 212 ∷ 191 ∷ 65 ∷ 70 ∷ 23
    ∷ 157 ∷ 55 ∷ 64 ∷ 119 ∷ 202 ∷ [])))
    ∷ at 16314 (Arrives (seg 3176529069 65539 16 65535 None [])) ∷ at 32314 Ticks ∷ at 64314 Ticks
    ∷ at 64314 (Arrives (seg 3176529070 65538 18 100 None [])) ∷ at 124314 Ticks ∷ at 184314 Ticks
    ∷ at 184314 (Arrives (seg 3176529070 65488 24 65535 None (replicate 70 204))) ∷ at 244314 Ticks
    ∷ at 244315 (Arrives (seg 3176529140 65536 16 65535 None (161 ∷ 206 ∷ 93 ∷ 232 ∷ []))) ∷ at 304314 Ticks
    ∷ at 304315 (Arrives (seg 3176529405 65538 8 100 None (replicate 300 235)))
    ∷ at 304322 (Arrives (seg 3176529144 65540 17 65535 None (246 ∷ 219 ∷ 58 ∷ 176 ∷ [])))
    ∷ at 304322 (Arrives (seg 3176529399 65539 24 0 None (163 ∷ []))) ∷ at 305322 Ticks
    ∷ at 305322 (Arrives (seg 3176529405 65540 16 30 None (89 ∷ 164 ∷ 135 ∷ 22 ∷ []))) ∷ [])
    (open_active mine peer 65536 256 256))
    ≡ told FinWait1 3 4 0 [] 75 256 (Some 307322) false (
    (goes 65536 0 2 256 (Some 1460) [] ∷ []) ∷ (goes 65537 3176529070 16 256 None [] ∷ []) ∷ [] ∷ (goes 65537 3176529070 16 256 None [] ∷ [])
    ∷ (goes 65537 3176529070 16 256 None (92 ∷ []) ∷ []) ∷ (goes 65538 3176529070 16 256 None [] ∷ []) ∷ [] ∷ [] ∷ [] ∷ [] ∷ []
    ∷ (goes 65538 3176529070 16 256 None (57 ∷ []) ∷ []) ∷ (goes 65538 3176529070 16 256 None (57 ∷ []) ∷ [])
    ∷ (goes 65538 3176529070 16 256 None (57 ∷ []) ∷ []) ∷ (goes 65538 3176529070 16 256 None (57 ∷ []) ∷ []) ∷ [] ∷ []
    ∷ (goes 65539 3176529070 16 256 None [] ∷ []) ∷ (goes 65539 3176529070 16 256 None [] ∷ [])
    ∷ (goes 65538 3176529070 16 256 None (57 ∷ []) ∷ []) ∷ (goes 65538 3176529070 16 256 None (57 ∷ []) ∷ [])
    ∷ (goes 65539 3176529070 16 256 None [] ∷ []) ∷ (goes 65538 3176529070 16 256 None (57 ∷ []) ∷ [])
    ∷ (goes 65538 3176529070 16 256 None (57 ∷ []) ∷ []) ∷ (goes 65539 3176529140 16 256 None [] ∷ [])
    ∷ (goes 65538 3176529140 16 256 None (57 ∷ []) ∷ []) ∷ (goes 65539 3176529144 16 256 None [] ∷ [])
    ∷ (goes 65538 3176529144 16 256 None (57 ∷ []) ∷ []) ∷ (goes 65539 3176529144 16 256 None [] ∷ [])
    ∷ (goes 65539 3176529144 16 256 None [] ∷ []) ∷ (goes 65539 3176529144 16 256 None [] ∷ [])
    ∷ (goes 65539 3176529144 16 256 None (31 ∷ []) ∷ []) ∷ (goes 65540 3176529144 16 256 None [] ∷ []) ∷ [])
unfolding arrive emitted after_emission
case_22 = refl

pub case_23 : shown (play (
    at 0 Opens ∷ at 1000 Ticks ∷ at 3000 Ticks ∷ at 3000 (Arrives (seg 4294966924 73458687 18 60 (Some 10) [])) ∷ at 3000 Shuts
    ∷ at 3000 (Arrives (seg 4294967181 73458688 24 100 None (replicate 140 83))) ∷ at 3007 Closes
    ∷ at 3007 (Arrives (seg 4294966925 73458686 16 0 None [])) ∷ at 4000 Ticks ∷ at 6000 Ticks
    ∷ at 6000 (Arrives (seg 4294966925 73458687 16 100 None [])) ∷ at 10000 Ticks ∷ at 18000 Ticks ∷ at 34000 Ticks ∷ at 66000 Ticks
    ∷ at 126000 Ticks ∷ at 186000 Ticks ∷ at 186000 (Arrives (seg 4294966925 73458686 17 0 None (235 ∷ 151 ∷ 110 ∷ 46 ∷ [])))
    ∷ at 186000 (Arrives (seg 1347571184 73458687 24 500 None (replicate 128 35))) ∷ at 246000 Ticks
    ∷ at 246000 (Arrives (seg 4294967185 73458686 16 0 None [])) ∷ at 246000 (Arrives (seg 4294966930 73458687 16 0 None (replicate 128 41)))
    ∷ at 246000 (Arrives (seg 4294966890 73458688 16 30 None (replicate 70 208)))
    ∷ at 246000 (Arrives (seg 4294966930 73458688 16 100 None (replicate 140 3)))
    ∷ at 246000 (Arrives (seg 4294967186 73458688 24 0 None (replicate 70 150))) ∷ at 246000 (Arrives (seg 4294966890 73458688 24 0 None []))
    ∷ at 246000 (Arrives (seg 4294967185 1036201072 0 500 None (159 ∷ 233 ∷ 66 ∷ 182 ∷ [])))
    ∷ at 246007 (Arrives (seg 4294967130 73458686 24 100 None (replicate 128 187)))
    ∷ at 246007 (Arrives (seg 465073745 73458686 0 0 None (220 ∷ 32 ∷ 233 ∷ 1 ∷ [])))
    ∷ at 246007 (Arrives (seg 1077743505 73458689 0 30 None (replicate 140 74)))
    ∷ at 246014 (Arrives (seg 4294966940 1994223140 16 0 None (replicate 300 112)))
    ∷ at 246014 (Arrives (seg 4294967130 386370450 24 65535 None []))
    ∷ at 246015 (Arrives (seg 4294967185 73458688 16 0 None (replicate 300 111))) ∷ at 246315 (Arrives (seg 4294966933 73458686 24 100 None []))
    ∷ [])
    (open_active mine peer 73458686 512 256))
    ≡ told TimeWait 2 2 0 [] 6 256 None true (
    (goes 73458686 0 2 256 (Some 1460) [] ∷ []) ∷ (goes 73458686 0 2 256 (Some 1460) [] ∷ []) ∷ (goes 73458686 0 2 256 (Some 1460) [] ∷ [])
    ∷ (goes 73458687 4294966925 16 256 None [] ∷ []) ∷ (goes 73458687 4294966925 17 256 None [] ∷ [])
    ∷ (goes 73458688 4294966925 16 256 None [] ∷ []) ∷ [] ∷ [] ∷ (goes 73458687 4294966925 17 256 None [] ∷ [])
    ∷ (goes 73458687 4294966925 17 256 None [] ∷ []) ∷ [] ∷ (goes 73458687 4294966925 17 256 None [] ∷ [])
    ∷ (goes 73458687 4294966925 17 256 None [] ∷ []) ∷ (goes 73458687 4294966925 17 256 None [] ∷ [])
    ∷ (goes 73458687 4294966925 17 256 None [] ∷ []) ∷ (goes 73458687 4294966925 17 256 None [] ∷ [])
    ∷ (goes 73458687 4294966925 17 256 None [] ∷ []) ∷ (goes 73458688 4294966930 16 256 None [] ∷ [])
    ∷ (goes 73458688 4294966930 16 256 None [] ∷ []) ∷ (goes 73458687 4294966930 17 256 None [] ∷ []) ∷ [] ∷ [] ∷ [] ∷ []
    ∷ (goes 73458688 4294966930 16 256 None [] ∷ []) ∷ (goes 73458688 4294966930 16 256 None [] ∷ []) ∷ [] ∷ []
    ∷ (goes 73458688 4294966930 16 256 None [] ∷ []) ∷ (goes 73458688 4294966930 16 256 None [] ∷ [])
    ∷ (goes 73458688 4294966930 16 256 None [] ∷ []) ∷ (goes 73458688 4294966930 16 256 None [] ∷ []) ∷ [] ∷ [] ∷ [])
unfolding arrive emitted after_emission
case_23 = refl

pub case_24 : shown (play (
    at 0 Opens ∷ at 0 (Arrives (seg 1 65537 2 60 (Some 100) [])) ∷ at 0 (Arrives (seg 1 65537 18 60 (Some 100) []))
    ∷ at 0 (Commits (17 ∷ 109 ∷ 161 ∷ 173 ∷ 35 ∷ 159 ∷ 49 ∷ 125 ∷ 78 ∷ 250 ∷ 145 ∷ 136 ∷ 140 ∷ 101 ∷ 47 ∷ 253 ∷ 78 ∷ 73 ∷ 166 ∷ 245 ∷ 101 ∷ 67
    ∷ 243 ∷ 132 ∷ 115 ∷ 124 ∷ 43 ∷ 69 ∷ 133 ∷ 160 ∷ 117 ∷ 200 ∷ 105 ∷ 156 ∷ 206 ∷ 34 ∷ 240 ∷ 185 ∷ 166 ∷ 128 ∷ []))
    ∷ at 0 (Arrives (seg 1657641261 65536 24 0 None [])) ∷ at 7 (Commits (replicate 1 8)) ∷ at 1000 Ticks ∷ at 1000 Shuts
    ∷ at 1300 (Arrives (seg 42 65579 24 0 None (236 ∷ 34 ∷ 86 ∷ 118 ∷ 64 ∷ [])))
    ∷ at 1300 (Arrives (seg 2360455771 65579 16 65535 None (53 ∷ 93 ∷ 56 ∷ 72 ∷ 40 ∷ 254 ∷ 156 ∷ 130 ∷ 232 ∷ 235 ∷ 193 ∷ 210 ∷ 79 ∷ 174 ∷ 41 ∷ 97
    ∷ 78 ∷ 92 ∷ 67 ∷ 225 ∷ [])))
    ∷ at 1300 (Arrives (seg 1 65579 16 30 None (192 ∷ 243 ∷ 174 ∷ 233 ∷ [])))
    ∷ at 1301 (Arrives (seg 15 65580 16 0 None (112 ∷ 186 ∷ 116 ∷ 201 ∷ 170 ∷ 38 ∷ 43 ∷ 183 ∷ 227 ∷ 231 ∷ 182 ∷ 229 ∷ 241 ∷ 211 ∷ 121 ∷ 17 ∷ 55
    ∷ 83 ∷ 15 ∷ 154 ∷ [])))
    ∷ at 1301 (Arrives (seg 8 65529 16 0 None (replicate 140 147))) ∷ at 1601 (Arrives (seg 5 65580 24 0 None [])) ∷ at 1601 (Takes 1000)
    ∷ at 1901 (Arrives (seg 5 1437881339 16 30 None (84 ∷ 1 ∷ 143 ∷ 70 ∷ []))) ∷ at 1901 Closes
    ∷ at 2201 (Arrives (seg 260 65537 16 500 None (63 ∷ 118 ∷ 222 ∷ 151 ∷ []))) ∷ at 2201 (Arrives (seg 8 65537 25 30 None []))
    ∷ at 2201 (Arrives (seg 4294967261 65579 24 65535 None [])) ∷ at 2208 (Arrives (seg 93058554 65579 16 0 None (replicate 70 222)))
    ∷ at 2208 (Arrives (seg 260 135759712 16 30 None (36 ∷ 92 ∷ 146 ∷ 204 ∷ 87 ∷ [])))
    ∷ at 2208 (Arrives (seg 45 65579 24 100 None (replicate 300 218))) ∷ at 2208 (Arrives (seg 5 65580 16 500 None (replicate 70 42)))
    ∷ at 2208 (Arrives (seg 260 65579 17 30 None (replicate 128 0))) ∷ at 2215 (Arrives (seg 5 65578 16 0 None (30 ∷ 210 ∷ 233 ∷ 220 ∷ 232 ∷ [])))
    ∷ [])
    (open_active mine peer 65536 256 256))
    ≡ told TimeWait 43 43 30 [] 8 256 None true (
    (goes 65536 0 2 256 (Some 1460) [] ∷ []) ∷ [] ∷ (goes 65537 2 16 256 None [] ∷ [])
    ∷ (goes 65537 2 24 256 None (17 ∷ 109 ∷ 161 ∷ 173 ∷ 35 ∷ 159 ∷ 49 ∷ 125 ∷ 78 ∷ 250 ∷ 145 ∷ 136 ∷ 140 ∷ 101 ∷ 47 ∷ 253 ∷ 78 ∷ 73 ∷ 166 ∷ 245
    ∷ 101 ∷ 67 ∷ 243 ∷ 132 ∷ 115 ∷ 124 ∷ 43 ∷ 69 ∷ 133 ∷ 160 ∷ 117 ∷ 200 ∷ 105 ∷ 156 ∷ 206 ∷ 34 ∷ 240 ∷ 185 ∷ 166 ∷ 128 ∷ []) ∷ [])
    ∷ (goes 65577 2 16 256 None [] ∷ []) ∷ (goes 65577 2 24 256 None (8 ∷ []) ∷ [])
    ∷ (goes 65537 2 24 256 None (17 ∷ 109 ∷ 161 ∷ 173 ∷ 35 ∷ 159 ∷ 49 ∷ 125 ∷ 78 ∷ 250 ∷ 145 ∷ 136 ∷ 140 ∷ 101 ∷ 47 ∷ 253 ∷ 78 ∷ 73 ∷ 166 ∷ 245
    ∷ 101 ∷ 67 ∷ 243 ∷ 132 ∷ 115 ∷ 124 ∷ 43 ∷ 69 ∷ 133 ∷ 160 ∷ 117 ∷ 200 ∷ 105 ∷ 156 ∷ 206 ∷ 34 ∷ 240 ∷ 185 ∷ 166 ∷ 128 ∷ 8 ∷ []) ∷ [])
    ∷ (goes 65578 2 17 256 None [] ∷ []) ∷ (goes 65579 2 16 256 None [] ∷ []) ∷ (goes 65579 2 16 256 None [] ∷ [])
    ∷ (goes 65579 5 16 253 None [] ∷ []) ∷ (goes 65579 5 16 253 None [] ∷ []) ∷ (goes 65579 5 16 253 None [] ∷ [])
    ∷ (goes 65579 5 16 253 None [] ∷ []) ∷ [] ∷ (goes 65579 5 16 256 None [] ∷ []) ∷ [] ∷ (goes 65579 5 16 256 None [] ∷ [])
    ∷ (goes 65579 5 16 256 None [] ∷ []) ∷ (goes 65579 5 16 256 None [] ∷ []) ∷ (goes 65579 5 16 256 None [] ∷ [])
    ∷ (goes 65579 5 16 256 None [] ∷ []) ∷ (goes 65579 5 16 256 None [] ∷ []) ∷ (goes 65579 5 16 256 None [] ∷ [])
    ∷ (goes 65579 5 16 256 None [] ∷ []) ∷ (goes 65579 9 16 256 None [] ∷ []) ∷ [])
unfolding arrive emitted after_emission
case_24 = refl

pub case_25 : shown (play (
    at 0 Opens ∷ at 0 (Arrives (seg 3685266966 4294967141 16 100 None (replicate 140 53)))
    ∷ at 300 (Arrives (seg 3685267306 4294967141 24 0 None (replicate 128 228)))
    ∷ at 600 (Arrives (seg 3685267106 4294967142 25 0 None (219 ∷ 179 ∷ 32 ∷ 66 ∷ []))) ∷ at 900 Shuts
    ∷ at 1200 (Arrives (seg 3685267146 4294967140 24 0 None [])) ∷ at 1900 Ticks ∷ at 1900 (Takes 1) ∷ at 1901 (Takes 1)
    ∷ at 1901 (Arrives (seg 3685267106 4294967141 16 0 None [])) ∷ at 1908 (Takes 60) ∷ at 1909 (Takes 128)
    ∷ at 1916 (Arrives (seg 3685267106 4294967140 16 0 None (replicate 140 184))) ∷ at 1916 (Arrives (seg 1590063232 4294967143 16 0 None []))
    ∷ at 1916 (Arrives (seg 3685267367 1684714427 16 0 None (replicate 300 43))) ∷ at 3900 Ticks ∷ at 3901 Closes
    ∷ at 4201 (Arrives (seg 3685267507 4294967140 16 0 None (99 ∷ [])))
    ∷ at 4208 (Arrives (seg 3685267245 3030205667 16 100 None (107 ∷ 174 ∷ 139 ∷ 218 ∷ [])))
    ∷ at 4208 (Arrives (seg 3685267510 4294967091 16 0 None (10 ∷ []))) ∷ at 7900 Ticks ∷ at 15900 Ticks
    ∷ at 15900 (Arrives (seg 3685267249 4294967141 16 100 None (replicate 140 220))) ∷ at 31900 Ticks ∷ at 63900 Ticks ∷ at 123900 Ticks
    ∷ at 123900 (Arrives (seg 3685267389 4294967141 16 100 None [])) ∷ at 183900 Ticks ∷ at 243900 Ticks ∷ at 303900 Ticks
    ∷ at 303900 (Arrives (seg 3685267389 4294967141 18 100 None [])) ∷ at 363900 Ticks ∷ at 423900 Ticks ∷ at 483900 Ticks
    ∷ at 484200 (Arrives (seg 3685267349 4294967142 16 30 None (replicate 300 86)))
    ∷ at 484207 (Arrives (seg 3685267384 4294967141 16 65535 None (180 ∷ 12 ∷ 68 ∷ 212 ∷ []))) ∷ [])
    (open_passive mine peer 4294967140 (seg 3685266965 0 2 65535 (Some 100) (122 ∷ 122 ∷ [])) 256 256))
    ≡ told FinWait1 1 2 100 [] 424 256 (Some 543900) false (
    (goes 4294967140 3685266966 18 256 (Some 1460) [] ∷ []) ∷ (goes 4294967141 3685267106 16 116 None [] ∷ [])
    ∷ (goes 4294967141 3685267106 16 116 None [] ∷ []) ∷ (goes 4294967141 3685267106 16 116 None [] ∷ [])
    ∷ (goes 4294967141 3685267106 17 116 None [] ∷ []) ∷ [] ∷ (goes 4294967141 3685267106 17 116 None [] ∷ []) ∷ [] ∷ [] ∷ [] ∷ []
    ∷ (goes 4294967142 3685267106 16 256 None [] ∷ []) ∷ (goes 4294967142 3685267246 16 116 None [] ∷ [])
    ∷ (goes 4294967142 3685267246 16 116 None [] ∷ []) ∷ (goes 4294967142 3685267246 16 116 None [] ∷ [])
    ∷ (goes 4294967141 3685267246 17 116 None [] ∷ []) ∷ [] ∷ (goes 4294967142 3685267246 16 256 None [] ∷ [])
    ∷ (goes 4294967142 3685267249 16 256 None [] ∷ []) ∷ (goes 4294967142 3685267249 16 256 None [] ∷ [])
    ∷ (goes 4294967141 3685267249 17 256 None [] ∷ []) ∷ (goes 4294967141 3685267249 17 256 None [] ∷ [])
    ∷ (goes 4294967142 3685267389 16 256 None [] ∷ []) ∷ (goes 4294967141 3685267389 17 256 None [] ∷ [])
    ∷ (goes 4294967141 3685267389 17 256 None [] ∷ []) ∷ (goes 4294967141 3685267389 17 256 None [] ∷ []) ∷ []
    ∷ (goes 4294967141 3685267389 17 256 None [] ∷ []) ∷ (goes 4294967141 3685267389 17 256 None [] ∷ [])
    ∷ (goes 4294967141 3685267389 17 256 None [] ∷ []) ∷ (goes 4294967142 3685267389 16 256 None [] ∷ [])
    ∷ (goes 4294967141 3685267389 17 256 None [] ∷ []) ∷ (goes 4294967141 3685267389 17 256 None [] ∷ [])
    ∷ (goes 4294967141 3685267389 17 256 None [] ∷ []) ∷ (goes 4294967142 3685267389 16 256 None [] ∷ [])
    ∷ (goes 4294967142 3685267389 16 256 None [] ∷ []) ∷ [])
unfolding arrive emitted after_emission
case_25 = refl

pub case_26 : shown (play (
    at 0 Opens ∷ at 0 (Arrives (seg 4 82297 18 0 (Some 64) [])) ∷ at 0 (Commits (247 ∷ 199 ∷ 186 ∷ 124 ∷ 15 ∷ []))
    ∷ at 7 (Arrives (seg 4 82296 16 100 None (replicate 70 163))) ∷ at 7 (Commits (replicate 1 38)) ∷ at 1000 Ticks ∷ at 3000 Ticks
    ∷ at 7000 Ticks ∷ at 15000 Ticks ∷ at 15000 (Arrives (seg 74 82297 18 100 None [])) ∷ at 15000 (Arrives (seg 74 82297 16 100 None []))
    ∷ at 15000 (Arrives (seg 74 82303 24 0 None [])) ∷ at 15000 (Commits (replicate 1 216))
    ∷ at 15000 (Commits (202 ∷ 14 ∷ 51 ∷ 56 ∷ 105 ∷ 225 ∷ 121 ∷ 156 ∷ 119 ∷ 74 ∷ 197 ∷ 205 ∷ 161 ∷ 41 ∷ 33 ∷ 79 ∷ 22 ∷ 12 ∷ 73 ∷ 203 ∷ 124 ∷ 165
    ∷ 34 ∷ 102 ∷ 143 ∷ 165 ∷ 222 ∷ 240 ∷ 111 ∷ 255 ∷ 122 ∷ 3 ∷ 51 ∷ 53 ∷ 11 ∷ 109 ∷ 108 ∷ 50 ∷ 73 ∷ 68 ∷ []))
    ∷ at 15001 (Arrives (seg 73 82303 16 30 None (replicate 128 105))) ∷ at 15001 (Arrives (seg 401 82296 24 30 None []))
    ∷ at 15001 (Arrives (seg 204 82303 16 100 None [])) ∷ at 16000 Ticks
    ∷ at 16000 (Arrives (seg 266 82296 24 0 None (51 ∷ 251 ∷ 35 ∷ 188 ∷ 239 ∷ 113 ∷ 136 ∷ 72 ∷ 55 ∷ 154 ∷ 112 ∷ 179 ∷ 69 ∷ 254 ∷ 24 ∷ 239 ∷ 55
    ∷ 228 ∷ 247 ∷ 152 ∷ [])))
    ∷ at 16000 (Arrives (seg 266 82296 24 0 None (235 ∷ 60 ∷ 90 ∷ 180 ∷ []))) ∷ at 16000 (Arrives (seg 161 82345 16 0 None (replicate 70 254)))
    ∷ at 16000 Shuts ∷ at 16000 (Arrives (seg 196 82324 16 0 None (7 ∷ []))) ∷ at 16000 (Takes 128) ∷ at 18000 Ticks
    ∷ at 18000 (Arrives (seg 201 82303 16 100 None [])) ∷ at 22000 Ticks ∷ at 22000 (Arrives (seg 201 82303 16 100 None [])) ∷ at 30000 Ticks
    ∷ at 46000 Ticks ∷ at 78000 Ticks ∷ at 138000 Ticks ∷ at 198000 Ticks ∷ at 258000 Ticks ∷ at 258000 (Arrives (seg 201 82303 18 100 None []))
    ∷ at 258000 (Takes 127) ∷ at 258007 Closes ∷ at 258007 (Arrives (seg 158251756 733174394 16 0 None (replicate 140 249)))
    ∷ at 258007 (Arrives (seg 211 82346 16 0 None (130 ∷ 121 ∷ 155 ∷ 218 ∷ 84 ∷ []))) ∷ at 318000 Ticks ∷ [])
    (open_active mine peer 82296 256 256))
    ≡ told FinWait1 7 49 100 [] 197 256 (Some 378000) false (
    (goes 82296 0 2 256 (Some 1460) [] ∷ []) ∷ (goes 82297 5 16 256 None [] ∷ []) ∷ [] ∷ (goes 82297 74 16 187 None [] ∷ []) ∷ []
    ∷ (goes 82297 74 16 187 None (247 ∷ []) ∷ []) ∷ (goes 82297 74 16 187 None (247 ∷ []) ∷ []) ∷ (goes 82297 74 16 187 None (247 ∷ []) ∷ [])
    ∷ (goes 82297 74 16 187 None (247 ∷ []) ∷ []) ∷ (goes 82298 74 16 187 None [] ∷ [])
    ∷ (goes 82298 74 24 187 None (199 ∷ 186 ∷ 124 ∷ 15 ∷ 38 ∷ []) ∷ []) ∷ [] ∷ [] ∷ [] ∷ (goes 82303 201 16 60 None [] ∷ [])
    ∷ (goes 82303 201 16 60 None [] ∷ [])
    ∷ (goes 82303 201 24 60 None (216 ∷ 202 ∷ 14 ∷ 51 ∷ 56 ∷ 105 ∷ 225 ∷ 121 ∷ 156 ∷ 119 ∷ 74 ∷ 197 ∷ 205 ∷ 161 ∷ 41 ∷ 33 ∷ 79 ∷ 22 ∷ 12 ∷ 73
    ∷ 203 ∷ 124 ∷ 165 ∷ 34 ∷ 102 ∷ 143 ∷ 165 ∷ 222 ∷ 240 ∷ 111 ∷ 255 ∷ 122 ∷ 3 ∷ 51 ∷ 53 ∷ 11 ∷ 109 ∷ 108 ∷ 50 ∷ 73 ∷ 68 ∷ []) ∷ [])
    ∷ (goes 82303 201 24 60 None (216 ∷ 202 ∷ 14 ∷ 51 ∷ 56 ∷ 105 ∷ 225 ∷ 121 ∷ 156 ∷ 119 ∷ 74 ∷ 197 ∷ 205 ∷ 161 ∷ 41 ∷ 33 ∷ 79 ∷ 22 ∷ 12 ∷ 73
    ∷ 203 ∷ 124 ∷ 165 ∷ 34 ∷ 102 ∷ 143 ∷ 165 ∷ 222 ∷ 240 ∷ 111 ∷ 255 ∷ 122 ∷ 3 ∷ 51 ∷ 53 ∷ 11 ∷ 109 ∷ 108 ∷ 50 ∷ 73 ∷ 68 ∷ []) ∷ [])
    ∷ (goes 82344 201 16 60 None [] ∷ []) ∷ (goes 82344 201 16 60 None [] ∷ []) ∷ (goes 82344 201 16 60 None [] ∷ [])
    ∷ (goes 82344 201 17 60 None [] ∷ []) ∷ (goes 82345 201 16 60 None [] ∷ []) ∷ (goes 82345 201 16 188 None [] ∷ [])
    ∷ (goes 82303 201 24 188 None (216 ∷ 202 ∷ 14 ∷ 51 ∷ 56 ∷ 105 ∷ 225 ∷ 121 ∷ 156 ∷ 119 ∷ 74 ∷ 197 ∷ 205 ∷ 161 ∷ 41 ∷ 33 ∷ 79 ∷ 22 ∷ 12 ∷ 73
    ∷ 203 ∷ 124 ∷ 165 ∷ 34 ∷ 102 ∷ 143 ∷ 165 ∷ 222 ∷ 240 ∷ 111 ∷ 255 ∷ 122 ∷ 3 ∷ 51 ∷ 53 ∷ 11 ∷ 109 ∷ 108 ∷ 50 ∷ 73 ∷ 68 ∷ []) ∷ [])
    ∷ []
    ∷ (goes 82303 201 24 188 None (216 ∷ 202 ∷ 14 ∷ 51 ∷ 56 ∷ 105 ∷ 225 ∷ 121 ∷ 156 ∷ 119 ∷ 74 ∷ 197 ∷ 205 ∷ 161 ∷ 41 ∷ 33 ∷ 79 ∷ 22 ∷ 12 ∷ 73
    ∷ 203 ∷ 124 ∷ 165 ∷ 34 ∷ 102 ∷ 143 ∷ 165 ∷ 222 ∷ 240 ∷ 111 ∷ 255 ∷ 122 ∷ 3 ∷ 51 ∷ 53 ∷ 11 ∷ 109 ∷ 108 ∷ 50 ∷ 73 ∷ 68 ∷ []) ∷ [])
    ∷ []
    ∷ (goes 82303 201 24 188 None (216 ∷ 202 ∷ 14 ∷ 51 ∷ 56 ∷ 105 ∷ 225 ∷ 121 ∷ 156 ∷ 119 ∷ 74 ∷ 197 ∷ 205 ∷ 161 ∷ 41 ∷ 33 ∷ 79 ∷ 22 ∷ 12 ∷ 73
    ∷ 203 ∷ 124 ∷ 165 ∷ 34 ∷ 102 ∷ 143 ∷ 165 ∷ 222 ∷ 240 ∷ 111 ∷ 255 ∷ 122 ∷ 3 ∷ 51 ∷ 53 ∷ 11 ∷ 109 ∷ 108 ∷ 50 ∷ 73 ∷ 68 ∷ []) ∷ [])
    ∷ (goes 82303 201 24 188 None (216 ∷ 202 ∷ 14 ∷ 51 ∷ 56 ∷ 105 ∷ 225 ∷ 121 ∷ 156 ∷ 119 ∷ 74 ∷ 197 ∷ 205 ∷ 161 ∷ 41 ∷ 33 ∷ 79 ∷ 22 ∷ 12 ∷ 73
    ∷ 203 ∷ 124 ∷ 165 ∷ 34 ∷ 102 ∷ 143 ∷ 165 ∷ 222 ∷ 240 ∷ 111 ∷ 255 ∷ 122 ∷ 3 ∷ 51 ∷ 53 ∷ 11 ∷ 109 ∷ 108 ∷ 50 ∷ 73 ∷ 68 ∷ []) ∷ [])
    ∷ (goes 82303 201 24 188 None (216 ∷ 202 ∷ 14 ∷ 51 ∷ 56 ∷ 105 ∷ 225 ∷ 121 ∷ 156 ∷ 119 ∷ 74 ∷ 197 ∷ 205 ∷ 161 ∷ 41 ∷ 33 ∷ 79 ∷ 22 ∷ 12 ∷ 73
    ∷ 203 ∷ 124 ∷ 165 ∷ 34 ∷ 102 ∷ 143 ∷ 165 ∷ 222 ∷ 240 ∷ 111 ∷ 255 ∷ 122 ∷ 3 ∷ 51 ∷ 53 ∷ 11 ∷ 109 ∷ 108 ∷ 50 ∷ 73 ∷ 68 ∷ []) ∷ [])
    ∷ (goes 82303 201 24 188 None (216 ∷ 202 ∷ 14 ∷ 51 ∷ 56 ∷ 105 ∷ 225 ∷ 121 ∷ 156 ∷ 119 ∷ 74 ∷ 197 ∷ 205 ∷ 161 ∷ 41 ∷ 33 ∷ 79 ∷ 22 ∷ 12 ∷ 73
    ∷ 203 ∷ 124 ∷ 165 ∷ 34 ∷ 102 ∷ 143 ∷ 165 ∷ 222 ∷ 240 ∷ 111 ∷ 255 ∷ 122 ∷ 3 ∷ 51 ∷ 53 ∷ 11 ∷ 109 ∷ 108 ∷ 50 ∷ 73 ∷ 68 ∷ []) ∷ [])
    ∷ (goes 82303 201 24 188 None (216 ∷ 202 ∷ 14 ∷ 51 ∷ 56 ∷ 105 ∷ 225 ∷ 121 ∷ 156 ∷ 119 ∷ 74 ∷ 197 ∷ 205 ∷ 161 ∷ 41 ∷ 33 ∷ 79 ∷ 22 ∷ 12 ∷ 73
    ∷ 203 ∷ 124 ∷ 165 ∷ 34 ∷ 102 ∷ 143 ∷ 165 ∷ 222 ∷ 240 ∷ 111 ∷ 255 ∷ 122 ∷ 3 ∷ 51 ∷ 53 ∷ 11 ∷ 109 ∷ 108 ∷ 50 ∷ 73 ∷ 68 ∷ []) ∷ [])
    ∷ (goes 82303 201 24 188 None (216 ∷ 202 ∷ 14 ∷ 51 ∷ 56 ∷ 105 ∷ 225 ∷ 121 ∷ 156 ∷ 119 ∷ 74 ∷ 197 ∷ 205 ∷ 161 ∷ 41 ∷ 33 ∷ 79 ∷ 22 ∷ 12 ∷ 73
    ∷ 203 ∷ 124 ∷ 165 ∷ 34 ∷ 102 ∷ 143 ∷ 165 ∷ 222 ∷ 240 ∷ 111 ∷ 255 ∷ 122 ∷ 3 ∷ 51 ∷ 53 ∷ 11 ∷ 109 ∷ 108 ∷ 50 ∷ 73 ∷ 68 ∷ []) ∷ [])
    ∷ (goes 82345 201 16 188 None [] ∷ []) ∷ [] ∷ [] ∷ (goes 82345 201 16 256 None [] ∷ []) ∷ (goes 82345 201 16 256 None [] ∷ [])
    ∷ (goes 82303 201 24 256 None (216 ∷ 202 ∷ 14 ∷ 51 ∷ 56 ∷ 105 ∷ 225 ∷ 121 ∷ 156 ∷ 119 ∷ 74 ∷ 197 ∷ 205 ∷ 161 ∷ 41 ∷ 33 ∷ 79 ∷ 22 ∷ 12 ∷ 73
    ∷ 203 ∷ 124 ∷ 165 ∷ 34 ∷ 102 ∷ 143 ∷ 165 ∷ 222 ∷ 240 ∷ 111 ∷ 255 ∷ 122 ∷ 3 ∷ 51 ∷ 53 ∷ 11 ∷ 109 ∷ 108 ∷ 50 ∷ 73 ∷ 68 ∷ []) ∷ [])
    ∷ [])
unfolding arrive emitted after_emission
case_26 = refl

pub case_27 : shown (play (
    at 0 Opens ∷ at 1000 Ticks ∷ at 3000 Ticks ∷ at 3000 (Arrives (seg 1086251909 98882 2 65535 (Some 64) []))
    ∷ at 3000 (Arrives (seg 1086251909 98882 18 65535 (Some 64) []))
    ∷ at 3000 (Arrives (seg 1086251909 98883 24 65535 None (26 ∷ 88 ∷ 7 ∷ 231 ∷ 77 ∷ 177 ∷ 212 ∷ 33 ∷ 157 ∷ 224 ∷ 239 ∷ 180 ∷ 6 ∷ 184 ∷ 80 ∷ 135
    ∷ 90 ∷ 247 ∷ 182 ∷ 31 ∷ [])))
    ∷ at 3007 (Arrives (seg 1086251909 98882 16 500 None [])) ∷ at 3008 (Commits (replicate 300 195)) ∷ at 3008 (Commits (replicate 1 214))
    ∷ at 3008 (Arrives (seg 1086252427 98881 8 500 None (251 ∷ 187 ∷ 124 ∷ 212 ∷ 50 ∷ 180 ∷ 107 ∷ 111 ∷ 193 ∷ 81 ∷ 33 ∷ 246 ∷ 26 ∷ 119 ∷ 29 ∷ 169
    ∷ 251 ∷ 30 ∷ 28 ∷ 226 ∷ [])))
    ∷ at 3008 (Arrives (seg 1086251909 99183 16 0 None (118 ∷ 164 ∷ 58 ∷ 251 ∷ [])))
    ∷ at 3008 (Arrives (seg 1086251913 98882 17 0 None (140 ∷ 76 ∷ 98 ∷ 174 ∷ []))) ∷ at 3008 (Commits (53 ∷ 8 ∷ 95 ∷ 116 ∷ 19 ∷ []))
    ∷ at 3008 (Commits (195 ∷ 196 ∷ 73 ∷ 244 ∷ 186 ∷ 214 ∷ 207 ∷ 137 ∷ 206 ∷ 198 ∷ 120 ∷ 207 ∷ 29 ∷ 4 ∷ 225 ∷ 135 ∷ 123 ∷ 67 ∷ 94 ∷ 59 ∷ 251 ∷ 93
    ∷ 33 ∷ 182 ∷ 168 ∷ 5 ∷ 227 ∷ 143 ∷ 32 ∷ 230 ∷ 106 ∷ 225 ∷ 122 ∷ 158 ∷ 124 ∷ 228 ∷ 127 ∷ 124 ∷ 70 ∷ 116 ∷ []))
    ∷ at 3008 (Commits (replicate 1 222)) ∷ at 3008 (Takes 60) ∷ at 4008 Ticks ∷ at 6008 Ticks
    ∷ at 6008 (Arrives (seg 1086251918 99183 18 100 None [])) ∷ at 10008 Ticks ∷ at 18008 Ticks
    ∷ at 18008 (Arrives (seg 1086251918 99183 16 100 None [])) ∷ at 18015 Shuts
    ∷ at 18015 (Arrives (seg 1086251918 99183 16 500 None (replicate 140 0))) ∷ at 18015 Closes
    ∷ at 18015 (Arrives (seg 1086251878 99230 16 0 None [])) ∷ at 18015 (Arrives (seg 1086252430 99182 24 65535 None (replicate 128 107)))
    ∷ at 18016 (Arrives (seg 1086251928 99230 16 30 None (replicate 140 221)))
    ∷ at 18017 (Arrives (seg 1086251913 99230 17 0 None (replicate 70 209)))
    ∷ at 18017 (Arrives (seg 1086251928 99230 17 65535 None (3 ∷ 233 ∷ 240 ∷ 240 ∷ 34 ∷ 16 ∷ 82 ∷ 208 ∷ 65 ∷ 233 ∷ 110 ∷ 34 ∷ 114 ∷ 17 ∷ 23 ∷ 13
    ∷ 115 ∷ 219 ∷ 127 ∷ 131 ∷ [])))
    ∷ at 18024 (Arrives (seg 1086251917 99231 16 500 None (245 ∷ []))) ∷ [])
    (open_active mine peer 98881 512 512))
    ≡ told Closed 349 349 30 [] 9 512 None true (
    (goes 98881 0 2 512 (Some 1460) [] ∷ []) ∷ (goes 98881 0 2 512 (Some 1460) [] ∷ []) ∷ (goes 98881 0 2 512 (Some 1460) [] ∷ []) ∷ []
    ∷ (goes 98882 1086251910 16 512 None [] ∷ []) ∷ (goes 98882 1086251910 16 512 None [] ∷ []) ∷ (goes 98882 1086251910 16 512 None [] ∷ [])
    ∷ (goes 98882 1086251910 16 512 None (replicate 64 195) ∷ goes 98946 1086251910 16 512 None (replicate 64 195)
    ∷ goes 99010 1086251910 16 512 None (replicate 64 195) ∷ goes 99074 1086251910 16 512 None (replicate 64 195) ∷ [])
    ∷ (goes 99138 1086251910 24 512 None (replicate 44 195 ++ (214 ∷ [])) ∷ []) ∷ (goes 99183 1086251910 16 512 None [] ∷ [])
    ∷ (goes 99183 1086251913 16 509 None [] ∷ []) ∷ (goes 99183 1086251918 16 505 None [] ∷ []) ∷ [] ∷ [] ∷ [] ∷ []
    ∷ (goes 99183 1086251918 16 512 None (53 ∷ []) ∷ []) ∷ (goes 99183 1086251918 16 512 None (53 ∷ []) ∷ [])
    ∷ (goes 99184 1086251918 16 512 None [] ∷ []) ∷ (goes 99183 1086251918 16 512 None (53 ∷ []) ∷ [])
    ∷ (goes 99183 1086251918 16 512 None (53 ∷ []) ∷ [])
    ∷ (goes 99184 1086251918 24 512 None (8 ∷ 95 ∷ 116 ∷ 19 ∷ 195 ∷ 196 ∷ 73 ∷ 244 ∷ 186 ∷ 214 ∷ 207 ∷ 137 ∷ 206 ∷ 198 ∷ 120 ∷ 207 ∷ 29 ∷ 4 ∷ 225
    ∷ 135 ∷ 123 ∷ 67 ∷ 94 ∷ 59 ∷ 251 ∷ 93 ∷ 33 ∷ 182 ∷ 168 ∷ 5 ∷ 227 ∷ 143 ∷ 32 ∷ 230 ∷ 106 ∷ 225 ∷ 122 ∷ 158 ∷ 124 ∷ 228 ∷ 127 ∷ 124 ∷ 70
    ∷ 116 ∷ 222 ∷ []) ∷ [])
    ∷ (goes 99229 1086251918 17 512 None [] ∷ []) ∷ [] ∷ [] ∷ (goes 99230 1086251918 16 512 None [] ∷ [])
    ∷ (goes 99230 1086251918 16 512 None [] ∷ []) ∷ [] ∷ [] ∷ [] ∷ [] ∷ [])
unfolding arrive emitted after_emission
case_27 = refl

pub case_28 : shown (play (
    at 0 Opens ∷ at 0 (Arrives (seg 4294967187 60764 16 30 None (replicate 300 90))) ∷ at 0 (Commits (replicate 300 55))
    ∷ at 1 (Arrives (seg 147 650355368 16 100 None [])) ∷ at 301 (Arrives (seg 147 60779 18 30 None (replicate 300 108)))
    ∷ at 301 (Commits (7 ∷ 241 ∷ 10 ∷ 178 ∷ 165 ∷ [])) ∷ at 301 (Arrives (seg 147 60794 16 30 None (replicate 140 167))) ∷ at 301 Shuts
    ∷ at 301 (Arrives (seg 187 60764 16 500 None (replicate 128 68)))
    ∷ at 601 (Arrives (seg 347 60794 17 0 None (146 ∷ 170 ∷ 128 ∷ 73 ∷ 93 ∷ [])))
    ∷ at 601 (Arrives (seg 150 60794 18 500 None (191 ∷ 5 ∷ 159 ∷ 250 ∷ []))) ∷ at 601 (Takes 1000) ∷ at 601 Closes
    ∷ at 601 (Arrives (seg 157 60714 16 0 None (replicate 300 124))) ∷ at 601 (Arrives (seg 146 60763 16 100 None (replicate 128 98)))
    ∷ at 601 (Arrives (seg 398 60779 16 500 None (176 ∷ []))) ∷ at 601 (Arrives (seg 398 3617657722 16 65535 None (replicate 128 166)))
    ∷ at 601 (Arrives (seg 526 60764 16 30 None (replicate 128 43))) ∷ at 601 (Arrives (seg 915 60764 16 0 None (167 ∷ [])))
    ∷ at 601 (Arrives (seg 654 60763 16 65535 None (replicate 70 235))) ∷ at 901 (Arrives (seg 727 60892 24 100 None []))
    ∷ at 901 (Arrives (seg 985 61021 16 65535 None [])) ∷ at 901 (Arrives (seg 724 60956 1 0 None (175 ∷ 19 ∷ 164 ∷ 125 ∷ 79 ∷ [])))
    ∷ at 901 (Arrives (seg 724 61021 24 30 None (70 ∷ []))) ∷ at 901 (Arrives (seg 724 3873731704 24 65535 None (replicate 128 43)))
    ∷ at 901 (Arrives (seg 1107 60763 24 500 None (118 ∷ 31 ∷ 162 ∷ 133 ∷ 53 ∷ 230 ∷ 94 ∷ 114 ∷ 255 ∷ 26 ∷ 5 ∷ 207 ∷ 27 ∷ 159 ∷ 143 ∷ 205 ∷ 182
    ∷ 65 ∷ 239 ∷ 116 ∷ [])))
    ∷ [])
    (open_passive mine peer 60763 (seg 4294967186 0 2 50 (Some 64) (122 ∷ 122 ∷ [])) 256 256))
    ≡ told FinWait2 258 258 500 [] 962 256 None false (
    (goes 60763 4294967187 18 256 (Some 1460) [] ∷ []) ∷ (goes 60764 147 16 0 None [] ∷ []) ∷ (goes 60764 147 16 0 None (replicate 30 55) ∷ [])
    ∷ (goes 60794 147 16 0 None [] ∷ []) ∷ (goes 60794 147 16 0 None [] ∷ []) ∷ [] ∷ (goes 60794 147 16 0 None [] ∷ []) ∷ []
    ∷ (goes 60794 147 16 0 None [] ∷ []) ∷ (goes 60794 147 16 0 None [] ∷ []) ∷ (goes 60794 147 16 0 None [] ∷ [])
    ∷ (goes 60794 147 16 256 None [] ∷ []) ∷ [] ∷ (goes 60794 147 16 256 None [] ∷ []) ∷ (goes 60794 403 16 256 None [] ∷ [])
    ∷ (goes 60794 403 16 256 None [] ∷ [])
    ∷ (goes 60794 526 16 256 None (replicate 64 55) ∷ goes 60858 526 16 256 None (replicate 64 55) ∷ goes 60922 526 16 256 None (replicate 64 55)
    ∷ goes 60986 526 24 256 None (replicate 34 55) ∷ goes 61020 526 17 256 None [] ∷ [])
    ∷ (goes 61021 654 16 256 None [] ∷ []) ∷ (goes 61021 654 16 256 None [] ∷ []) ∷ (goes 61021 724 16 256 None [] ∷ []) ∷ []
    ∷ (goes 61021 724 16 256 None [] ∷ []) ∷ [] ∷ (goes 61021 725 16 256 None [] ∷ []) ∷ (goes 61021 852 16 256 None [] ∷ [])
    ∷ (goes 61021 852 16 256 None [] ∷ []) ∷ [])
unfolding arrive emitted after_emission
case_28 = refl

pub case_29 : shown (play (
    at 0 Opens ∷ at 7 (Arrives (seg 4294967279 372627868 18 60 (Some 200) []))
    ∷ at 307 (Arrives (seg 4294967275 372627868 16 100 None (142 ∷ 112 ∷ 210 ∷ 241 ∷ 73 ∷ 157 ∷ 153 ∷ 241 ∷ 203 ∷ 50 ∷ 188 ∷ 71 ∷ 135 ∷ 76 ∷ 174
    ∷ 35 ∷ 203 ∷ 83 ∷ 212 ∷ 218 ∷ [])))
    ∷ at 307 (Arrives (seg 2795054831 372627868 0 500 None [])) ∷ at 307 (Commits (replicate 150 54))
    ∷ at 307 (Commits (173 ∷ 203 ∷ 157 ∷ 35 ∷ 127 ∷ 46 ∷ 20 ∷ 56 ∷ 153 ∷ 91 ∷ 87 ∷ 195 ∷ 162 ∷ 77 ∷ 236 ∷ 82 ∷ 57 ∷ 187 ∷ 79 ∷ 12 ∷ 21 ∷ 206 ∷ 83
    ∷ 210 ∷ 1 ∷ 45 ∷ 203 ∷ 218 ∷ 96 ∷ 161 ∷ 100 ∷ 52 ∷ 128 ∷ 140 ∷ 8 ∷ 43 ∷ 172 ∷ 143 ∷ 43 ∷ 4 ∷ []))
    ∷ at 307 (Arrives (seg 4294967294 372627929 24 30 None (171 ∷ 184 ∷ 121 ∷ 106 ∷ [])))
    ∷ at 307 (Arrives (seg 4294967294 372627868 16 30 None (57 ∷ []))) ∷ at 307 (Arrives (seg 4294967295 372627868 28 0 None (replicate 70 73)))
    ∷ at 307 (Takes 60) ∷ at 307 (Arrives (seg 4294967295 372627898 16 65535 None (replicate 140 127)))
    ∷ at 314 (Arrives (seg 4294967295 372627868 18 100 None (replicate 300 117)))
    ∷ at 314 (Arrives (seg 4294967295 372627867 16 30 None (replicate 70 209)))
    ∷ at 614 (Arrives (seg 199 372627898 16 30 None (233 ∷ 139 ∷ 14 ∷ 166 ∷ 25 ∷ [])))
    ∷ at 614 (Arrives (seg 4294967295 372627928 16 65535 None [])) ∷ at 614 (Arrives (seg 9 372627818 16 0 None (replicate 300 7)))
    ∷ at 621 (Arrives (seg 516 372627868 24 65535 None (replicate 140 65))) ∷ at 621 (Arrives (seg 4294967295 372627928 16 500 None []))
    ∷ at 621 (Arrives (seg 4294967290 372627868 25 100 None (replicate 70 171)))
    ∷ at 621 (Arrives (seg 4294967290 372627898 16 500 None (174 ∷ []))) ∷ at 621 (Arrives (seg 4294967255 372627928 28 30 None []))
    ∷ at 921 (Arrives (seg 4294967295 372627898 24 100 None (189 ∷ [])))
    ∷ at 1221 (Arrives (seg 4294967295 372627818 1 65535 None (28 ∷ 135 ∷ 11 ∷ 14 ∷ 98 ∷ [])))
    ∷ at 1222 (Arrives (seg 4294967295 372627928 16 100 None (replicate 128 210)))
    ∷ at 1229 (Arrives (seg 2 372627928 24 65535 None (replicate 128 135))) ∷ at 1529 (Arrives (seg 2 372627868 16 100 None (replicate 300 51)))
    ∷ [])
    (open_active mine peer 372627867 512 512))
    ≡ told Broken 1 61 60 [] 16 512 None false (
    (goes 372627867 0 2 512 (Some 1460) [] ∷ []) ∷ (goes 372627868 4294967280 16 512 None [] ∷ [])
    ∷ (goes 372627868 4294967295 16 497 None [] ∷ []) ∷ (goes 372627868 4294967295 16 497 None [] ∷ [])
    ∷ (goes 372627868 4294967295 16 497 None (replicate 60 54) ∷ []) ∷ [] ∷ (goes 372627928 4294967295 16 497 None [] ∷ [])
    ∷ (goes 372627928 4294967295 16 497 None [] ∷ []) ∷ [] ∷ [] ∷ [] ∷ [] ∷ [] ∷ [] ∷ [] ∷ [] ∷ [] ∷ [] ∷ [] ∷ [] ∷ [] ∷ [] ∷ [] ∷ [] ∷ [] ∷ []
    ∷ [])
unfolding arrive emitted after_emission
case_29 = refl

pub case_30 : shown (play (
    at 0 Opens ∷ at 1000 Ticks ∷ at 3000 Ticks ∷ at 7000 Ticks ∷ at 15000 Ticks
    ∷ at 15000 (Arrives (seg 1615676914 2671009191 18 300 (Some 10) []))
    ∷ at 15000 (Arrives (seg 1615677115 1746829210 16 0 None (129 ∷ 41 ∷ 70 ∷ 124 ∷ 161 ∷ 60 ∷ 14 ∷ 209 ∷ 154 ∷ 91 ∷ 95 ∷ 241 ∷ 169 ∷ 231 ∷ 170
    ∷ 172 ∷ 34 ∷ 10 ∷ 52 ∷ 242 ∷ [])))
    ∷ at 15000 (Arrives (seg 1615677170 2671009191 16 500 None (replicate 128 154))) ∷ at 15000 (Commits (61 ∷ 171 ∷ 16 ∷ 129 ∷ 200 ∷ []))
    ∷ at 15000 (Arrives (seg 1615676915 2671009190 16 100 None (190 ∷ 135 ∷ 224 ∷ 70 ∷ 68 ∷ []))) ∷ at 16000 Ticks
    ∷ at 16007 (Arrives (seg 1615676930 2671009190 24 0 None (replicate 140 51))) ∷ at 18000 Ticks ∷ at 18001 (Commits (replicate 300 225))
    ∷ at 18001 (Arrives (seg 1615676920 3490547927 28 0 None (replicate 300 152))) ∷ at 18002 (Takes 128)
    ∷ at 18002 (Arrives (seg 1615676920 2671009321 24 65535 None (replicate 128 232)))
    ∷ at 18003 (Arrives (seg 894011970 2671009191 29 30 None (23 ∷ 2 ∷ 209 ∷ 189 ∷ 76 ∷ 163 ∷ 236 ∷ 51 ∷ 130 ∷ 139 ∷ 83 ∷ 186 ∷ 39 ∷ 95 ∷ 95 ∷ 195
    ∷ 167 ∷ 151 ∷ 178 ∷ 135 ∷ [])))
    ∷ at 18003 (Arrives (seg 1615676920 2671009141 24 0 None (replicate 128 76))) ∷ at 18003 (Arrives (seg 1615677176 2671009453 16 500 None []))
    ∷ at 18003 (Arrives (seg 1615676920 2671009321 25 0 None (replicate 300 138)))
    ∷ at 18303 (Arrives (seg 1615676919 970636182 16 0 None (242 ∷ 18 ∷ 209 ∷ 71 ∷ [])))
    ∷ at 18603 (Arrives (seg 1615676960 2671009321 16 65535 None (replicate 140 88)))
    ∷ at 18603 (Arrives (seg 1615676920 2671009453 16 65535 None (76 ∷ [])))
    ∷ at 18604 (Arrives (seg 1615677120 2671009452 8 0 None (194 ∷ 85 ∷ 241 ∷ 176 ∷ [])))
    ∷ at 18604 (Arrives (seg 1615677175 2671009452 24 0 None (replicate 70 146)))
    ∷ at 18604 (Arrives (seg 1615676880 3429720560 17 30 None (replicate 300 219))) ∷ at 18604 (Arrives (seg 1615676920 2671009452 17 30 None []))
    ∷ at 18604 (Arrives (seg 1615676930 2671009141 16 100 None (10 ∷ []))) ∷ [])
    (open_active mine peer 2671009190 512 256))
    ≡ told Broken 1 262 500 [] 6 256 None false (
    (goes 2671009190 0 2 256 (Some 1460) [] ∷ []) ∷ (goes 2671009190 0 2 256 (Some 1460) [] ∷ []) ∷ (goes 2671009190 0 2 256 (Some 1460) [] ∷ [])
    ∷ (goes 2671009190 0 2 256 (Some 1460) [] ∷ []) ∷ (goes 2671009190 0 2 256 (Some 1460) [] ∷ [])
    ∷ (goes 2671009191 1615676915 16 256 None [] ∷ []) ∷ (goes 2671009191 1615676915 16 256 None [] ∷ [])
    ∷ (goes 2671009191 1615676915 16 256 None [] ∷ []) ∷ (goes 2671009191 1615676915 24 256 None (61 ∷ 171 ∷ 16 ∷ 129 ∷ 200 ∷ []) ∷ [])
    ∷ (goes 2671009196 1615676920 16 251 None [] ∷ []) ∷ (goes 2671009191 1615676920 24 251 None (61 ∷ 171 ∷ 16 ∷ 129 ∷ 200 ∷ []) ∷ [])
    ∷ (goes 2671009196 1615676920 16 251 None [] ∷ []) ∷ (goes 2671009191 1615676920 24 251 None (61 ∷ 171 ∷ 16 ∷ 129 ∷ 200 ∷ []) ∷ [])
    ∷ (goes 2671009196 1615676920 16 251 None (replicate 64 225) ∷ goes 2671009260 1615676920 16 251 None (replicate 64 225)
    ∷ goes 2671009324 1615676920 16 251 None (replicate 64 225) ∷ goes 2671009388 1615676920 16 251 None (replicate 64 225) ∷ [])
    ∷ [] ∷ [] ∷ [] ∷ [] ∷ [] ∷ [] ∷ [] ∷ [] ∷ [] ∷ [] ∷ [] ∷ [] ∷ [] ∷ [] ∷ [] ∷ [])
unfolding arrive emitted after_emission
case_30 = refl

pub case_31 : shown (play (
    at 0 Opens ∷ at 0 (Arrives (seg 3055913605 65537 16 65535 None [])) ∷ at 0 (Arrives (seg 3055913605 65538 25 65535 None (replicate 128 15)))
    ∷ at 0 (Arrives (seg 3055913565 65537 24 0 None (replicate 70 109)))
    ∷ at 7 (Arrives (seg 2622861838 65538 24 0 None (58 ∷ 232 ∷ 103 ∷ 170 ∷ []))) ∷ at 7 (Arrives (seg 3055914116 65487 16 100 None []))
    ∷ at 7 (Commits (replicate 300 176)) ∷ at 14 Shuts ∷ at 21 (Arrives (seg 3055914117 65537 16 500 None (221 ∷ 212 ∷ 21 ∷ 8 ∷ [])))
    ∷ at 1007 Ticks ∷ at 3007 Ticks ∷ at 3007 (Arrives (seg 3055913635 65537 18 100 None [])) ∷ at 7007 Ticks ∷ at 15007 Ticks
    ∷ at 15007 (Takes 3)
    ∷ at 15008 (Arrives (seg 3055913635 65587 16 500 None (52 ∷ 13 ∷ 202 ∷ 204 ∷ 21 ∷ 238 ∷ 48 ∷ 228 ∷ 59 ∷ 239 ∷ 196 ∷ 154 ∷ 87 ∷ 36 ∷ 173 ∷ 189
    ∷ 83 ∷ 147 ∷ 190 ∷ 139 ∷ [])))
    ∷ at 16008 Ticks ∷ at 18008 Ticks ∷ at 22008 Ticks ∷ at 30008 Ticks
    ∷ at 30308 (Arrives (seg 3055913855 65587 16 65535 None (replicate 128 254)))
    ∷ at 30308 (Arrives (seg 3055913655 1265555582 24 500 None (57 ∷ []))) ∷ at 30308 (Takes 127) ∷ at 46008 Ticks ∷ at 46009 Closes
    ∷ at 46009 (Arrives (seg 3055913855 65537 16 0 None (203 ∷ 194 ∷ 147 ∷ 190 ∷ 107 ∷ [])))
    ∷ at 46009 (Arrives (seg 3055913650 65537 16 500 None (replicate 70 172))) ∷ at 46016 (Arrives (seg 3055913720 65586 16 500 None []))
    ∷ at 46017 (Arrives (seg 3055913720 3688318074 16 0 None (replicate 140 141)))
    ∷ at 46017 (Arrives (seg 3055914183 65536 16 65535 None (185 ∷ []))) ∷ [])
    (open_passive mine peer 65536 (seg 3055913604 0 2 0 (Some 200) (122 ∷ 122 ∷ [])) 256 512))
    ≡ told FinWait1 51 258 65535 [] 379 512 (Some 78008) false (
    (goes 65536 3055913605 18 512 (Some 1460) [] ∷ []) ∷ [] ∷ (goes 65537 3055913605 16 512 None [] ∷ [])
    ∷ (goes 65537 3055913635 16 482 None [] ∷ []) ∷ (goes 65537 3055913635 16 482 None [] ∷ []) ∷ []
    ∷ (goes 65537 3055913635 16 482 None (replicate 100 176) ∷ []) ∷ [] ∷ (goes 65637 3055913635 16 482 None [] ∷ [])
    ∷ (goes 65537 3055913635 16 482 None (replicate 100 176) ∷ []) ∷ (goes 65537 3055913635 16 482 None (replicate 100 176) ∷ [])
    ∷ (goes 65637 3055913635 16 482 None [] ∷ []) ∷ (goes 65537 3055913635 16 482 None (replicate 100 176) ∷ [])
    ∷ (goes 65537 3055913635 16 482 None (replicate 100 176) ∷ []) ∷ [] ∷ (goes 65637 3055913655 16 465 None (replicate 50 176) ∷ [])
    ∷ (goes 65587 3055913655 16 465 None (replicate 100 176) ∷ []) ∷ (goes 65587 3055913655 16 465 None (replicate 100 176) ∷ [])
    ∷ (goes 65587 3055913655 16 465 None (replicate 100 176) ∷ []) ∷ (goes 65587 3055913655 16 465 None (replicate 100 176) ∷ [])
    ∷ (goes 65687 3055913655 16 465 None [] ∷ []) ∷ (goes 65687 3055913655 16 465 None [] ∷ []) ∷ []
    ∷ (goes 65587 3055913655 16 512 None (replicate 100 176) ∷ []) ∷ [] ∷ (goes 65687 3055913655 16 512 None [] ∷ [])
    ∷ (goes 65687 3055913720 16 512 None [] ∷ []) ∷ [] ∷ (goes 65687 3055913983 16 512 None [] ∷ [])
    ∷ (goes 65687 3055913983 24 512 None (replicate 106 176) ∷ goes 65793 3055913983 17 512 None [] ∷ []) ∷ [])
unfolding arrive emitted after_emission
case_31 = refl

pub case_32 : shown (play (
    at 0 Opens ∷ at 0 (Arrives (seg 4294967130 1301991837 16 0 None []))
    ∷ at 300 (Commits (42 ∷ 16 ∷ 148 ∷ 117 ∷ 147 ∷ 168 ∷ 40 ∷ 124 ∷ 205 ∷ 148 ∷ 218 ∷ 35 ∷ 244 ∷ 4 ∷ 92 ∷ 228 ∷ 83 ∷ 46 ∷ 31 ∷ 67 ∷ 133 ∷ 24 ∷ 154
    ∷ 74 ∷ 196 ∷ 28 ∷ 99 ∷ 18 ∷ 250 ∷ 3 ∷ 167 ∷ 184 ∷ 251 ∷ 245 ∷ 127 ∷ 165 ∷ 119 ∷ 115 ∷ 196 ∷ 192 ∷ []))
    ∷ at 300 (Arrives (seg 4294967090 1301991836 26 0 None []))
    ∷ at 300 (Arrives (seg 3448385501 1301991836 24 65535 None (66 ∷ 134 ∷ 247 ∷ 187 ∷ []))) ∷ at 1300 Ticks
    ∷ at 1301 (Arrives (seg 4294967130 1301991837 16 500 None (8 ∷ 35 ∷ 66 ∷ 178 ∷ 43 ∷ 61 ∷ 113 ∷ 173 ∷ 38 ∷ 156 ∷ 92 ∷ 118 ∷ 33 ∷ 51 ∷ 94 ∷ 9
    ∷ 8 ∷ 126 ∷ 163 ∷ 186 ∷ [])))
    ∷ at 1301 (Commits (replicate 1 115)) ∷ at 3300 Ticks ∷ at 7300 Ticks ∷ at 7300 (Arrives (seg 4294967150 1301991837 18 100 None []))
    ∷ at 15300 Ticks ∷ at 31300 Ticks ∷ at 63300 Ticks ∷ at 123300 Ticks ∷ at 183300 Ticks ∷ at 243300 Ticks ∷ at 303300 Ticks
    ∷ at 303300 (Arrives (seg 4294967150 1301991837 18 100 None [])) ∷ at 303300 (Commits (109 ∷ 242 ∷ 154 ∷ 63 ∷ 13 ∷ [])) ∷ at 303300 (Takes 60)
    ∷ at 303300 (Arrives (seg 110 1301991883 16 30 None (24 ∷ []))) ∷ at 303600 (Arrives (seg 1322868795 2308698100 16 500 None (177 ∷ [])))
    ∷ at 363300 Ticks ∷ at 423300 Ticks ∷ at 423300 (Commits (replicate 1 62))
    ∷ at 423300 (Arrives (seg 4294967160 1301991884 17 65535 None (replicate 300 88))) ∷ at 423301 (Commits (replicate 150 115))
    ∷ at 423301 (Arrives (seg 4294967153 1301991837 16 100 None []))
    ∷ at 423301 (Arrives (seg 4294967110 1301991959 16 100 None (141 ∷ 89 ∷ 24 ∷ 111 ∷ 224 ∷ 7 ∷ 106 ∷ 145 ∷ 152 ∷ 139 ∷ 74 ∷ 127 ∷ 88 ∷ 100 ∷ 210
    ∷ 96 ∷ 16 ∷ 199 ∷ 101 ∷ 30 ∷ [])))
    ∷ at 424301 Ticks ∷ at 424301 (Arrives (seg 4294967160 1301992035 16 0 None (replicate 70 31))) ∷ at 424301 (Commits (replicate 1 253))
    ∷ at 424302 (Commits (233 ∷ 125 ∷ 167 ∷ 126 ∷ 44 ∷ [])) ∷ at 424302 (Commits (replicate 150 145))
    ∷ at 424302 (Arrives (seg 109 3160356115 16 100 None [])) ∷ [])
    (open_passive mine peer 1301991836 (seg 4294967129 0 2 65535 None (122 ∷ 122 ∷ [])) 256 256))
    ≡ told Established 48 304 65535 [] 21 256 (Some 426301) false (
    (goes 1301991836 4294967130 18 256 (Some 1460) [] ∷ []) ∷ [] ∷ [] ∷ (goes 1301991837 4294967130 16 256 None [] ∷ [])
    ∷ (goes 1301991837 4294967130 16 256 None [] ∷ []) ∷ (goes 1301991837 4294967130 16 256 None (42 ∷ []) ∷ [])
    ∷ (goes 1301991838 4294967150 24 236 None (16 ∷ 148 ∷ 117 ∷ 147 ∷ 168 ∷ 40 ∷ 124 ∷ 205 ∷ 148 ∷ 218 ∷ 35 ∷ 244 ∷ 4 ∷ 92 ∷ 228 ∷ 83 ∷ 46 ∷ 31
    ∷ 67 ∷ 133 ∷ 24 ∷ 154 ∷ 74 ∷ 196 ∷ 28 ∷ 99 ∷ 18 ∷ 250 ∷ 3 ∷ 167 ∷ 184 ∷ 251 ∷ 245 ∷ 127 ∷ 165 ∷ 119 ∷ 115 ∷ 196 ∷ 192 ∷ []) ∷ [])
    ∷ (goes 1301991877 4294967150 24 236 None (115 ∷ []) ∷ [])
    ∷ (goes 1301991837 4294967150 24 236 None (42 ∷ 16 ∷ 148 ∷ 117 ∷ 147 ∷ 168 ∷ 40 ∷ 124 ∷ 205 ∷ 148 ∷ 218 ∷ 35 ∷ 244 ∷ 4 ∷ 92 ∷ 228 ∷ 83 ∷ 46
    ∷ 31 ∷ 67 ∷ 133 ∷ 24 ∷ 154 ∷ 74 ∷ 196 ∷ 28 ∷ 99 ∷ 18 ∷ 250 ∷ 3 ∷ 167 ∷ 184 ∷ 251 ∷ 245 ∷ 127 ∷ 165 ∷ 119 ∷ 115 ∷ 196 ∷ 192 ∷ 115 ∷ [])
    ∷ [])
    ∷ (goes 1301991837 4294967150 24 236 None (42 ∷ 16 ∷ 148 ∷ 117 ∷ 147 ∷ 168 ∷ 40 ∷ 124 ∷ 205 ∷ 148 ∷ 218 ∷ 35 ∷ 244 ∷ 4 ∷ 92 ∷ 228 ∷ 83 ∷ 46
    ∷ 31 ∷ 67 ∷ 133 ∷ 24 ∷ 154 ∷ 74 ∷ 196 ∷ 28 ∷ 99 ∷ 18 ∷ 250 ∷ 3 ∷ 167 ∷ 184 ∷ 251 ∷ 245 ∷ 127 ∷ 165 ∷ 119 ∷ 115 ∷ 196 ∷ 192 ∷ 115 ∷ [])
    ∷ [])
    ∷ (goes 1301991878 4294967150 16 236 None [] ∷ [])
    ∷ (goes 1301991837 4294967150 24 236 None (42 ∷ 16 ∷ 148 ∷ 117 ∷ 147 ∷ 168 ∷ 40 ∷ 124 ∷ 205 ∷ 148 ∷ 218 ∷ 35 ∷ 244 ∷ 4 ∷ 92 ∷ 228 ∷ 83 ∷ 46
    ∷ 31 ∷ 67 ∷ 133 ∷ 24 ∷ 154 ∷ 74 ∷ 196 ∷ 28 ∷ 99 ∷ 18 ∷ 250 ∷ 3 ∷ 167 ∷ 184 ∷ 251 ∷ 245 ∷ 127 ∷ 165 ∷ 119 ∷ 115 ∷ 196 ∷ 192 ∷ 115 ∷ [])
    ∷ [])
    ∷ (goes 1301991837 4294967150 24 236 None (42 ∷ 16 ∷ 148 ∷ 117 ∷ 147 ∷ 168 ∷ 40 ∷ 124 ∷ 205 ∷ 148 ∷ 218 ∷ 35 ∷ 244 ∷ 4 ∷ 92 ∷ 228 ∷ 83 ∷ 46
    ∷ 31 ∷ 67 ∷ 133 ∷ 24 ∷ 154 ∷ 74 ∷ 196 ∷ 28 ∷ 99 ∷ 18 ∷ 250 ∷ 3 ∷ 167 ∷ 184 ∷ 251 ∷ 245 ∷ 127 ∷ 165 ∷ 119 ∷ 115 ∷ 196 ∷ 192 ∷ 115 ∷ [])
    ∷ [])
    ∷ (goes 1301991837 4294967150 24 236 None (42 ∷ 16 ∷ 148 ∷ 117 ∷ 147 ∷ 168 ∷ 40 ∷ 124 ∷ 205 ∷ 148 ∷ 218 ∷ 35 ∷ 244 ∷ 4 ∷ 92 ∷ 228 ∷ 83 ∷ 46
    ∷ 31 ∷ 67 ∷ 133 ∷ 24 ∷ 154 ∷ 74 ∷ 196 ∷ 28 ∷ 99 ∷ 18 ∷ 250 ∷ 3 ∷ 167 ∷ 184 ∷ 251 ∷ 245 ∷ 127 ∷ 165 ∷ 119 ∷ 115 ∷ 196 ∷ 192 ∷ 115 ∷ [])
    ∷ [])
    ∷ (goes 1301991837 4294967150 24 236 None (42 ∷ 16 ∷ 148 ∷ 117 ∷ 147 ∷ 168 ∷ 40 ∷ 124 ∷ 205 ∷ 148 ∷ 218 ∷ 35 ∷ 244 ∷ 4 ∷ 92 ∷ 228 ∷ 83 ∷ 46
    ∷ 31 ∷ 67 ∷ 133 ∷ 24 ∷ 154 ∷ 74 ∷ 196 ∷ 28 ∷ 99 ∷ 18 ∷ 250 ∷ 3 ∷ 167 ∷ 184 ∷ 251 ∷ 245 ∷ 127 ∷ 165 ∷ 119 ∷ 115 ∷ 196 ∷ 192 ∷ 115 ∷ [])
    ∷ [])
    ∷ (goes 1301991837 4294967150 24 236 None (42 ∷ 16 ∷ 148 ∷ 117 ∷ 147 ∷ 168 ∷ 40 ∷ 124 ∷ 205 ∷ 148 ∷ 218 ∷ 35 ∷ 244 ∷ 4 ∷ 92 ∷ 228 ∷ 83 ∷ 46
    ∷ 31 ∷ 67 ∷ 133 ∷ 24 ∷ 154 ∷ 74 ∷ 196 ∷ 28 ∷ 99 ∷ 18 ∷ 250 ∷ 3 ∷ 167 ∷ 184 ∷ 251 ∷ 245 ∷ 127 ∷ 165 ∷ 119 ∷ 115 ∷ 196 ∷ 192 ∷ 115 ∷ [])
    ∷ [])
    ∷ (goes 1301991837 4294967150 24 236 None (42 ∷ 16 ∷ 148 ∷ 117 ∷ 147 ∷ 168 ∷ 40 ∷ 124 ∷ 205 ∷ 148 ∷ 218 ∷ 35 ∷ 244 ∷ 4 ∷ 92 ∷ 228 ∷ 83 ∷ 46
    ∷ 31 ∷ 67 ∷ 133 ∷ 24 ∷ 154 ∷ 74 ∷ 196 ∷ 28 ∷ 99 ∷ 18 ∷ 250 ∷ 3 ∷ 167 ∷ 184 ∷ 251 ∷ 245 ∷ 127 ∷ 165 ∷ 119 ∷ 115 ∷ 196 ∷ 192 ∷ 115 ∷ [])
    ∷ [])
    ∷ (goes 1301991837 4294967150 24 236 None (42 ∷ 16 ∷ 148 ∷ 117 ∷ 147 ∷ 168 ∷ 40 ∷ 124 ∷ 205 ∷ 148 ∷ 218 ∷ 35 ∷ 244 ∷ 4 ∷ 92 ∷ 228 ∷ 83 ∷ 46
    ∷ 31 ∷ 67 ∷ 133 ∷ 24 ∷ 154 ∷ 74 ∷ 196 ∷ 28 ∷ 99 ∷ 18 ∷ 250 ∷ 3 ∷ 167 ∷ 184 ∷ 251 ∷ 245 ∷ 127 ∷ 165 ∷ 119 ∷ 115 ∷ 196 ∷ 192 ∷ 115 ∷ [])
    ∷ [])
    ∷ (goes 1301991878 4294967150 16 236 None [] ∷ []) ∷ (goes 1301991878 4294967150 24 236 None (109 ∷ 242 ∷ 154 ∷ 63 ∷ 13 ∷ []) ∷ []) ∷ []
    ∷ (goes 1301991883 4294967150 16 256 None [] ∷ []) ∷ (goes 1301991883 4294967150 16 256 None [] ∷ [])
    ∷ (goes 1301991837 4294967150 24 256 None (42 ∷ 16 ∷ 148 ∷ 117 ∷ 147 ∷ 168 ∷ 40 ∷ 124 ∷ 205 ∷ 148 ∷ 218 ∷ 35 ∷ 244 ∷ 4 ∷ 92 ∷ 228 ∷ 83 ∷ 46
    ∷ 31 ∷ 67 ∷ 133 ∷ 24 ∷ 154 ∷ 74 ∷ 196 ∷ 28 ∷ 99 ∷ 18 ∷ 250 ∷ 3 ∷ 167 ∷ 184 ∷ 251 ∷ 245 ∷ 127 ∷ 165 ∷ 119 ∷ 115 ∷ 196 ∷ 192 ∷ 115 ∷ 109
    ∷ 242 ∷ 154 ∷ 63 ∷ 13 ∷ []) ∷ [])
    ∷ (goes 1301991837 4294967150 24 256 None (42 ∷ 16 ∷ 148 ∷ 117 ∷ 147 ∷ 168 ∷ 40 ∷ 124 ∷ 205 ∷ 148 ∷ 218 ∷ 35 ∷ 244 ∷ 4 ∷ 92 ∷ 228 ∷ 83 ∷ 46
    ∷ 31 ∷ 67 ∷ 133 ∷ 24 ∷ 154 ∷ 74 ∷ 196 ∷ 28 ∷ 99 ∷ 18 ∷ 250 ∷ 3 ∷ 167 ∷ 184 ∷ 251 ∷ 245 ∷ 127 ∷ 165 ∷ 119 ∷ 115 ∷ 196 ∷ 192 ∷ 115 ∷ 109
    ∷ 242 ∷ 154 ∷ 63 ∷ 13 ∷ []) ∷ [])
    ∷ (goes 1301991883 4294967150 24 256 None (62 ∷ []) ∷ []) ∷ (goes 1301991884 4294967150 16 256 None [] ∷ [])
    ∷ (goes 1301991884 4294967150 24 256 None (replicate 150 115) ∷ []) ∷ [] ∷ (goes 1301992034 4294967150 16 256 None [] ∷ [])
    ∷ (goes 1301991884 4294967150 24 256 None (replicate 150 115) ∷ []) ∷ (goes 1301992034 4294967150 16 256 None [] ∷ [])
    ∷ (goes 1301992034 4294967150 24 256 None (253 ∷ []) ∷ []) ∷ (goes 1301992035 4294967150 24 256 None (233 ∷ 125 ∷ 167 ∷ 126 ∷ 44 ∷ []) ∷ [])
    ∷ (goes 1301992040 4294967150 24 256 None (replicate 100 145) ∷ []) ∷ (goes 1301992140 4294967150 16 256 None [] ∷ []) ∷ [])
unfolding arrive emitted after_emission
case_32 = refl

pub case_33 : shown (play (
    at 0 Opens ∷ at 0 (Arrives (seg 4294966944 24175 18 65535 (Some 10) []))
    ∷ at 7 (Arrives (seg 2388085448 24174 16 0 None (33 ∷ 187 ∷ 63 ∷ 164 ∷ []))) ∷ at 7 (Arrives (seg 4294966945 24174 20 100 None []))
    ∷ at 7 (Arrives (seg 4294966944 24175 24 65535 None (replicate 140 194)))
    ∷ at 14 (Arrives (seg 4294966948 24174 25 30 None (replicate 140 198)))
    ∷ at 14 (Arrives (seg 3986064322 24175 16 65535 None (17 ∷ 6 ∷ 116 ∷ 246 ∷ 47 ∷ [])))
    ∷ at 14 (Arrives (seg 4294966945 242616567 17 0 None (replicate 300 211))) ∷ at 14 (Arrives (seg 4294966945 24175 16 30 None []))
    ∷ at 314 (Arrives (seg 4294967145 24175 16 0 None [])) ∷ at 315 (Arrives (seg 4294966948 24175 24 0 None []))
    ∷ at 315 (Arrives (seg 160 24174 16 100 None (169 ∷ 123 ∷ 194 ∷ 21 ∷ 121 ∷ [])))
    ∷ at 316 (Arrives (seg 4294966948 24174 16 0 None (222 ∷ 120 ∷ 193 ∷ 232 ∷ 227 ∷ 204 ∷ 50 ∷ 188 ∷ 225 ∷ 81 ∷ 143 ∷ 111 ∷ 16 ∷ 53 ∷ 83 ∷ 95
    ∷ 196 ∷ 168 ∷ 244 ∷ 89 ∷ [])))
    ∷ at 316 (Arrives (seg 166 24125 24 30 None (252 ∷ 108 ∷ 159 ∷ 92 ∷ 221 ∷ [])))
    ∷ at 316 (Arrives (seg 4294966948 386658816 16 30 None (129 ∷ 222 ∷ 187 ∷ 179 ∷ []))) ∷ at 323 (Arrives (seg 4294967145 24175 16 30 None []))
    ∷ at 323 (Arrives (seg 4294966944 24176 16 30 None (replicate 300 166))) ∷ at 330 (Arrives (seg 4294966945 24175 24 0 None []))
    ∷ at 330 (Arrives (seg 160 24176 17 0 None [])) ∷ at 330 (Arrives (seg 4294966940 24174 16 0 None []))
    ∷ at 330 (Arrives (seg 4294966985 24176 16 65535 None (replicate 70 10)))
    ∷ at 331 (Arrives (seg 4294966940 24174 17 30 None (replicate 300 68)))
    ∷ at 331 (Arrives (seg 160 24175 17 100 None (55 ∷ 60 ∷ 187 ∷ 210 ∷ [])))
    ∷ at 331 (Arrives (seg 4294966940 24125 28 100 None (replicate 70 194))) ∷ at 631 (Arrives (seg 4294966945 24175 16 30 None []))
    ∷ at 638 (Arrives (seg 4294966905 24175 16 0 None (114 ∷ 42 ∷ 112 ∷ 84 ∷ []))) ∷ [])
    (open_active mine peer 24174 256 512))
    ≡ told Broken 1 1 65535 [] 1 512 None false (
    (goes 24174 0 2 512 (Some 1460) [] ∷ []) ∷ (goes 24175 4294966945 16 512 None [] ∷ []) ∷ (goes 24175 4294966945 16 512 None [] ∷ []) ∷ [] ∷ []
    ∷ [] ∷ [] ∷ [] ∷ [] ∷ [] ∷ [] ∷ [] ∷ [] ∷ [] ∷ [] ∷ [] ∷ [] ∷ [] ∷ [] ∷ [] ∷ [] ∷ [] ∷ [] ∷ [] ∷ [] ∷ [] ∷ [])
unfolding arrive emitted after_emission
case_33 = refl

pub case_34 : shown (play (
    at 0 Opens ∷ at 0 (Arrives (seg 1821386232 3859714888 18 0 (Some 2000) []))
    ∷ at 0 (Arrives (seg 1821386236 3859714838 16 30 None (105 ∷ 231 ∷ 91 ∷ 67 ∷ [])))
    ∷ at 7 (Arrives (seg 1821386494 3859714888 16 100 None (replicate 70 230)))
    ∷ at 8 (Commits (35 ∷ 153 ∷ 53 ∷ 152 ∷ 208 ∷ 116 ∷ 208 ∷ 158 ∷ 181 ∷ 233 ∷ 33 ∷ 36 ∷ 25 ∷ 172 ∷ 209 ∷ 164 ∷ 88 ∷ 95 ∷ 212 ∷ 175 ∷ 246 ∷ 186
    ∷ 142 ∷ 1 ∷ 133 ∷ 29 ∷ 82 ∷ 138 ∷ 60 ∷ 134 ∷ 43 ∷ 234 ∷ 73 ∷ 128 ∷ 78 ∷ 239 ∷ 92 ∷ 188 ∷ 192 ∷ 75 ∷ []))
    ∷ at 15 (Arrives (seg 1821386489 3859714838 16 0 None (11 ∷ 208 ∷ 236 ∷ 252 ∷ 200 ∷ []))) ∷ at 22 (Commits (replicate 300 95)) ∷ at 1008 Ticks
    ∷ at 3008 Ticks ∷ at 3008 (Arrives (seg 1821386233 3859714888 18 100 None [])) ∷ at 7008 Ticks ∷ at 15008 Ticks ∷ at 31008 Ticks
    ∷ at 63008 Ticks ∷ at 123008 Ticks ∷ at 183008 Ticks ∷ at 243008 Ticks ∷ at 303008 Ticks ∷ at 363008 Ticks
    ∷ at 363008 (Arrives (seg 1821386193 3859714887 16 30 None (147 ∷ 254 ∷ 201 ∷ 32 ∷ 159 ∷ [])))
    ∷ at 363009 (Arrives (seg 1821386233 3859714888 24 100 None (185 ∷ 85 ∷ 162 ∷ 164 ∷ 89 ∷ [])))
    ∷ at 363009 (Arrives (seg 1821386233 3859714887 16 65535 None (replicate 140 74)))
    ∷ at 363009 (Arrives (seg 1431123473 3859714887 0 30 None (217 ∷ 52 ∷ 111 ∷ 135 ∷ [])))
    ∷ at 363009 (Arrives (seg 1821386232 3859714919 24 0 None []))
    ∷ at 363309 (Arrives (seg 1821386233 3859714918 16 65535 None (replicate 300 44)))
    ∷ at 363309 (Arrives (seg 1821386233 3859714888 25 0 None (replicate 300 48)))
    ∷ at 363310 (Arrives (seg 1821386273 3859714887 16 500 None (replicate 70 62)))
    ∷ at 363310 (Arrives (seg 1821386488 1497845144 24 30 None (replicate 140 116)))
    ∷ at 363310 (Arrives (seg 1821386193 3859714888 16 65535 None (215 ∷ 82 ∷ 121 ∷ 162 ∷ 84 ∷ 51 ∷ 55 ∷ 206 ∷ 81 ∷ 94 ∷ 208 ∷ 24 ∷ 154 ∷ 241
    ∷ 146 ∷ 139 ∷ 109 ∷ 68 ∷ 24 ∷ 51 ∷ [])))
    ∷ at 363310 (Arrives (seg 1821386228 3859714919 24 500 None (162 ∷ [])))
    ∷ at 363310 (Arrives (seg 1821386233 3859714918 26 500 None (85 ∷ 155 ∷ 211 ∷ 163 ∷ [])))
    ∷ at 363310 (Arrives (seg 1821386273 3859714919 16 500 None (103 ∷ [])))
    ∷ at 363310 (Arrives (seg 1821386233 3859714888 24 0 None (replicate 70 56)))
    ∷ at 363317 (Arrives (seg 1821386233 3859714888 25 500 None (120 ∷ 120 ∷ 108 ∷ 202 ∷ [])))
    ∷ at 363317 (Arrives (seg 1821386228 3859714903 25 65535 None (138 ∷ [])))
    ∷ at 363317 (Arrives (seg 1821386236 3859714838 16 30 None (replicate 300 224))) ∷ [])
    (open_active mine peer 3859714887 256 256))
    ≡ told Broken 1 31 30 [] 1 256 None false (
    (goes 3859714887 0 2 256 (Some 1460) [] ∷ []) ∷ (goes 3859714888 1821386233 16 256 None [] ∷ [])
    ∷ (goes 3859714888 1821386233 16 256 None [] ∷ []) ∷ (goes 3859714888 1821386233 16 256 None [] ∷ [])
    ∷ (goes 3859714888 1821386233 16 256 None (35 ∷ 153 ∷ 53 ∷ 152 ∷ 208 ∷ 116 ∷ 208 ∷ 158 ∷ 181 ∷ 233 ∷ 33 ∷ 36 ∷ 25 ∷ 172 ∷ 209 ∷ 164 ∷ 88 ∷ 95
    ∷ 212 ∷ 175 ∷ 246 ∷ 186 ∷ 142 ∷ 1 ∷ 133 ∷ 29 ∷ 82 ∷ 138 ∷ 60 ∷ 134 ∷ []) ∷ [])
    ∷ (goes 3859714918 1821386233 16 256 None [] ∷ []) ∷ []
    ∷ (goes 3859714888 1821386233 16 256 None (35 ∷ 153 ∷ 53 ∷ 152 ∷ 208 ∷ 116 ∷ 208 ∷ 158 ∷ 181 ∷ 233 ∷ 33 ∷ 36 ∷ 25 ∷ 172 ∷ 209 ∷ 164 ∷ 88 ∷ 95
    ∷ 212 ∷ 175 ∷ 246 ∷ 186 ∷ 142 ∷ 1 ∷ 133 ∷ 29 ∷ 82 ∷ 138 ∷ 60 ∷ 134 ∷ []) ∷ [])
    ∷ (goes 3859714888 1821386233 16 256 None (35 ∷ 153 ∷ 53 ∷ 152 ∷ 208 ∷ 116 ∷ 208 ∷ 158 ∷ 181 ∷ 233 ∷ 33 ∷ 36 ∷ 25 ∷ 172 ∷ 209 ∷ 164 ∷ 88 ∷ 95
    ∷ 212 ∷ 175 ∷ 246 ∷ 186 ∷ 142 ∷ 1 ∷ 133 ∷ 29 ∷ 82 ∷ 138 ∷ 60 ∷ 134 ∷ []) ∷ [])
    ∷ (goes 3859714918 1821386233 16 256 None [] ∷ [])
    ∷ (goes 3859714888 1821386233 16 256 None (35 ∷ 153 ∷ 53 ∷ 152 ∷ 208 ∷ 116 ∷ 208 ∷ 158 ∷ 181 ∷ 233 ∷ 33 ∷ 36 ∷ 25 ∷ 172 ∷ 209 ∷ 164 ∷ 88 ∷ 95
    ∷ 212 ∷ 175 ∷ 246 ∷ 186 ∷ 142 ∷ 1 ∷ 133 ∷ 29 ∷ 82 ∷ 138 ∷ 60 ∷ 134 ∷ []) ∷ [])
    ∷ (goes 3859714888 1821386233 16 256 None (35 ∷ 153 ∷ 53 ∷ 152 ∷ 208 ∷ 116 ∷ 208 ∷ 158 ∷ 181 ∷ 233 ∷ 33 ∷ 36 ∷ 25 ∷ 172 ∷ 209 ∷ 164 ∷ 88 ∷ 95
    ∷ 212 ∷ 175 ∷ 246 ∷ 186 ∷ 142 ∷ 1 ∷ 133 ∷ 29 ∷ 82 ∷ 138 ∷ 60 ∷ 134 ∷ []) ∷ [])
    ∷ (goes 3859714888 1821386233 16 256 None (35 ∷ 153 ∷ 53 ∷ 152 ∷ 208 ∷ 116 ∷ 208 ∷ 158 ∷ 181 ∷ 233 ∷ 33 ∷ 36 ∷ 25 ∷ 172 ∷ 209 ∷ 164 ∷ 88 ∷ 95
    ∷ 212 ∷ 175 ∷ 246 ∷ 186 ∷ 142 ∷ 1 ∷ 133 ∷ 29 ∷ 82 ∷ 138 ∷ 60 ∷ 134 ∷ []) ∷ [])
    ∷ (goes 3859714888 1821386233 16 256 None (35 ∷ 153 ∷ 53 ∷ 152 ∷ 208 ∷ 116 ∷ 208 ∷ 158 ∷ 181 ∷ 233 ∷ 33 ∷ 36 ∷ 25 ∷ 172 ∷ 209 ∷ 164 ∷ 88 ∷ 95
    ∷ 212 ∷ 175 ∷ 246 ∷ 186 ∷ 142 ∷ 1 ∷ 133 ∷ 29 ∷ 82 ∷ 138 ∷ 60 ∷ 134 ∷ []) ∷ [])
    ∷ (goes 3859714888 1821386233 16 256 None (35 ∷ 153 ∷ 53 ∷ 152 ∷ 208 ∷ 116 ∷ 208 ∷ 158 ∷ 181 ∷ 233 ∷ 33 ∷ 36 ∷ 25 ∷ 172 ∷ 209 ∷ 164 ∷ 88 ∷ 95
    ∷ 212 ∷ 175 ∷ 246 ∷ 186 ∷ 142 ∷ 1 ∷ 133 ∷ 29 ∷ 82 ∷ 138 ∷ 60 ∷ 134 ∷ []) ∷ [])
    ∷ (goes 3859714888 1821386233 16 256 None (35 ∷ 153 ∷ 53 ∷ 152 ∷ 208 ∷ 116 ∷ 208 ∷ 158 ∷ 181 ∷ 233 ∷ 33 ∷ 36 ∷ 25 ∷ 172 ∷ 209 ∷ 164 ∷ 88 ∷ 95
    ∷ 212 ∷ 175 ∷ 246 ∷ 186 ∷ 142 ∷ 1 ∷ 133 ∷ 29 ∷ 82 ∷ 138 ∷ 60 ∷ 134 ∷ []) ∷ [])
    ∷ (goes 3859714888 1821386233 16 256 None (35 ∷ 153 ∷ 53 ∷ 152 ∷ 208 ∷ 116 ∷ 208 ∷ 158 ∷ 181 ∷ 233 ∷ 33 ∷ 36 ∷ 25 ∷ 172 ∷ 209 ∷ 164 ∷ 88 ∷ 95
    ∷ 212 ∷ 175 ∷ 246 ∷ 186 ∷ 142 ∷ 1 ∷ 133 ∷ 29 ∷ 82 ∷ 138 ∷ 60 ∷ 134 ∷ []) ∷ [])
    ∷ (goes 3859714888 1821386233 16 256 None (35 ∷ 153 ∷ 53 ∷ 152 ∷ 208 ∷ 116 ∷ 208 ∷ 158 ∷ 181 ∷ 233 ∷ 33 ∷ 36 ∷ 25 ∷ 172 ∷ 209 ∷ 164 ∷ 88 ∷ 95
    ∷ 212 ∷ 175 ∷ 246 ∷ 186 ∷ 142 ∷ 1 ∷ 133 ∷ 29 ∷ 82 ∷ 138 ∷ 60 ∷ 134 ∷ []) ∷ [])
    ∷ [] ∷ [] ∷ [] ∷ [] ∷ [] ∷ [] ∷ [] ∷ [] ∷ [] ∷ [] ∷ [] ∷ [] ∷ [] ∷ [] ∷ [] ∷ [] ∷ [] ∷ [] ∷ [])
unfolding arrive emitted after_emission
case_34 = refl

pub case_35 : shown (play (
    at 0 Opens ∷ at 0 Aborts ∷ [])
    (open_active mine peer 3715462652 256 512))
    ≡ told SynSent 0 1 0 [] 0 512 None false (
    (goes 3715462652 0 2 512 (Some 1460) [] ∷ []) ∷ [] ∷ [])
unfolding arrive emitted after_emission
case_35 = refl

pub case_36 : shown (play (
    at 0 Opens ∷ at 0 (Arrives (seg 4294967159 65537 16 500 None (63 ∷ [])))
    ∷ at 0 (Arrives (seg 3082104906 65537 16 0 None (253 ∷ 131 ∷ 18 ∷ 120 ∷ []))) ∷ at 0 (Commits (191 ∷ 222 ∷ 8 ∷ 194 ∷ 178 ∷ []))
    ∷ at 7 (Arrives (seg 4294967155 65537 16 100 None (replicate 140 141))) ∷ at 1000 Ticks
    ∷ at 1001 (Arrives (seg 4294967294 3797724528 17 0 None (57 ∷ []))) ∷ at 3000 Ticks ∷ at 7000 Ticks ∷ at 7000 Shuts
    ∷ at 7000 (Arrives (seg 375 78164020 17 0 None (36 ∷ 74 ∷ 59 ∷ 228 ∷ 50 ∷ 251 ∷ 10 ∷ 10 ∷ 216 ∷ 32 ∷ 218 ∷ 207 ∷ 87 ∷ 199 ∷ 55 ∷ 253 ∷ 120
    ∷ 212 ∷ 2 ∷ 120 ∷ [])))
    ∷ at 7000 (Takes 1000) ∷ at 7000 (Arrives (seg 4294967291 65542 24 100 None (replicate 300 162))) ∷ at 8000 Ticks
    ∷ at 8007 (Arrives (seg 3 65543 16 100 None (replicate 128 77))) ∷ at 8008 (Arrives (seg 512 1179108176 16 0 None []))
    ∷ at 8008 (Arrives (seg 4294967291 65543 16 65535 None (replicate 140 129)))
    ∷ at 8008 (Arrives (seg 0 65543 19 65535 None (183 ∷ 187 ∷ 112 ∷ 28 ∷ 225 ∷ 26 ∷ 255 ∷ 95 ∷ 84 ∷ 62 ∷ 210 ∷ 127 ∷ 239 ∷ 61 ∷ 242 ∷ 249 ∷ 69
    ∷ 147 ∷ 21 ∷ 121 ∷ [])))
    ∷ at 8008 Closes ∷ at 8308 (Arrives (seg 0 65543 20 30 None [])) ∷ at 8308 (Arrives (seg 0 2721545050 21 0 None (163 ∷ [])))
    ∷ at 8308 (Arrives (seg 3 65544 16 30 None (244 ∷ 166 ∷ 105 ∷ 238 ∷ 112 ∷ [])))
    ∷ at 8308 (Arrives (seg 384413934 65542 24 100 None (220 ∷ 239 ∷ 187 ∷ 176 ∷ 223 ∷ 180 ∷ 40 ∷ 81 ∷ 113 ∷ 209 ∷ 153 ∷ 247 ∷ 128 ∷ 103 ∷ 64
    ∷ 177 ∷ 253 ∷ 24 ∷ 3 ∷ 197 ∷ [])))
    ∷ at 8608 (Arrives (seg 4294967291 65542 8 500 None (117 ∷ 73 ∷ 210 ∷ 126 ∷ 244 ∷ 224 ∷ 216 ∷ 4 ∷ 198 ∷ 190 ∷ 28 ∷ 211 ∷ 107 ∷ 64 ∷ 244 ∷ 248
    ∷ 242 ∷ 202 ∷ 38 ∷ 168 ∷ [])))
    ∷ at 8608 (Arrives (seg 1619386242 65543 25 500 None (65 ∷ 157 ∷ 173 ∷ 113 ∷ [])))
    ∷ at 8608 (Arrives (seg 517 65543 17 0 None (replicate 140 36))) ∷ [])
    (open_passive mine peer 65536 (seg 4294967158 0 2 200 (Some 2000) (122 ∷ 122 ∷ [])) 256 512))
    ≡ told Closed 7 7 100 [] 138 512 None true (
    (goes 65536 4294967159 18 512 (Some 1460) [] ∷ []) ∷ (goes 65537 4294967160 16 511 None [] ∷ []) ∷ (goes 65537 4294967160 16 511 None [] ∷ [])
    ∷ (goes 65537 4294967160 24 511 None (191 ∷ 222 ∷ 8 ∷ 194 ∷ 178 ∷ []) ∷ []) ∷ (goes 65542 4294967295 16 376 None [] ∷ [])
    ∷ (goes 65537 4294967295 24 376 None (191 ∷ 222 ∷ 8 ∷ 194 ∷ 178 ∷ []) ∷ []) ∷ (goes 65542 0 16 376 None [] ∷ [])
    ∷ (goes 65537 0 24 376 None (191 ∷ 222 ∷ 8 ∷ 194 ∷ 178 ∷ []) ∷ []) ∷ (goes 65537 0 24 376 None (191 ∷ 222 ∷ 8 ∷ 194 ∷ 178 ∷ []) ∷ []) ∷ []
    ∷ (goes 65542 0 16 376 None [] ∷ []) ∷ [] ∷ [] ∷ (goes 65542 0 17 512 None [] ∷ []) ∷ [] ∷ [] ∷ [] ∷ [] ∷ [] ∷ [] ∷ [] ∷ [] ∷ [] ∷ [] ∷ []
    ∷ [] ∷ [])
unfolding arrive emitted after_emission
case_36 = refl

pub case_37 : shown (play (
    at 0 Opens ∷ at 0 (Arrives (seg 3 2710352944 18 0 (Some 100) (113 ∷ [])))
    ∷ at 7 (Arrives (seg 265 2710352944 24 0 None (213 ∷ 32 ∷ 4 ∷ 3 ∷ []))) ∷ at 7 (Commits (154 ∷ 21 ∷ 144 ∷ 139 ∷ 104 ∷ []))
    ∷ at 8 (Arrives (seg 7 3044191590 24 500 None [])) ∷ at 8 (Commits (replicate 1 92)) ∷ at 8 (Commits (219 ∷ 4 ∷ 182 ∷ 141 ∷ 34 ∷ []))
    ∷ at 1007 Ticks ∷ at 3007 Ticks ∷ at 7007 Ticks ∷ at 7007 (Arrives (seg 4 2710352944 18 100 None [])) ∷ at 15007 Ticks
    ∷ at 15007 (Arrives (seg 4 2710352944 16 100 None [])) ∷ at 15007 (Arrives (seg 214643251 2710352955 16 100 None (153 ∷ 2 ∷ 136 ∷ 14 ∷ [])))
    ∷ at 15007 (Commits (replicate 300 40)) ∷ at 15007 (Arrives (seg 4294967295 2710352944 16 500 None (199 ∷ []))) ∷ at 31007 Ticks
    ∷ at 31007 (Arrives (seg 4 2710352944 18 100 None [])) ∷ at 63007 Ticks ∷ at 123007 Ticks ∷ at 183007 Ticks ∷ at 243007 Ticks
    ∷ at 303007 Ticks ∷ at 363007 Ticks ∷ at 423007 Ticks ∷ at 483007 Ticks ∷ at 483007 Shuts
    ∷ at 483007 (Arrives (seg 14 3386013879 16 65535 None (replicate 128 222))) ∷ at 543007 Ticks ∷ at 603007 Ticks ∷ at 663007 Ticks
    ∷ at 723007 Ticks ∷ at 723007 Closes ∷ at 723007 (Arrives (seg 44 2710352994 16 0 None (replicate 70 142)))
    ∷ at 723007 (Arrives (seg 259 2710352944 16 0 None (replicate 128 44)))
    ∷ at 723307 (Arrives (seg 14 2710353044 24 65535 None (replicate 128 244))) ∷ at 723307 (Arrives (seg 44 2710353044 0 0 None []))
    ∷ at 723307 (Arrives (seg 4 2710353044 18 0 None [])) ∷ at 723314 (Arrives (seg 14 2710353044 16 100 None [])) ∷ at 724307 Ticks
    ∷ at 724307 (Arrives (seg 14 2710353044 24 65535 None (25 ∷ 247 ∷ 5 ∷ 105 ∷ 0 ∷ [])))
    ∷ at 724307 (Arrives (seg 44 2710353046 16 65535 None (replicate 70 252))) ∷ [])
    (open_active mine peer 2710352943 256 256))
    ≡ told FinWait1 101 102 0 [] 1 256 (Some 726307) false (
    (goes 2710352943 0 2 256 (Some 1460) [] ∷ []) ∷ (goes 2710352944 4 16 256 None [] ∷ []) ∷ (goes 2710352944 4 16 256 None [] ∷ []) ∷ []
    ∷ (goes 2710352944 4 16 256 None [] ∷ []) ∷ [] ∷ [] ∷ (goes 2710352944 4 16 256 None (154 ∷ []) ∷ [])
    ∷ (goes 2710352944 4 16 256 None (154 ∷ []) ∷ []) ∷ (goes 2710352944 4 16 256 None (154 ∷ []) ∷ []) ∷ (goes 2710352945 4 16 256 None [] ∷ [])
    ∷ (goes 2710352944 4 16 256 None (154 ∷ []) ∷ [])
    ∷ (goes 2710352945 4 24 256 None (21 ∷ 144 ∷ 139 ∷ 104 ∷ 92 ∷ 219 ∷ 4 ∷ 182 ∷ 141 ∷ 34 ∷ []) ∷ []) ∷ (goes 2710352955 4 16 256 None [] ∷ [])
    ∷ (goes 2710352955 4 16 256 None (replicate 89 40) ∷ []) ∷ (goes 2710353044 4 16 256 None [] ∷ [])
    ∷ (goes 2710352944 4 16 256 None ((154 ∷ 21 ∷ 144 ∷ 139 ∷ 104 ∷ 92 ∷ 219 ∷ 4 ∷ 182 ∷ 141 ∷ 34 ∷ []) ++ replicate 89 40) ∷ [])
    ∷ (goes 2710353044 4 16 256 None [] ∷ [])
    ∷ (goes 2710352944 4 16 256 None ((154 ∷ 21 ∷ 144 ∷ 139 ∷ 104 ∷ 92 ∷ 219 ∷ 4 ∷ 182 ∷ 141 ∷ 34 ∷ []) ++ replicate 89 40) ∷ [])
    ∷ (goes 2710352944 4 16 256 None ((154 ∷ 21 ∷ 144 ∷ 139 ∷ 104 ∷ 92 ∷ 219 ∷ 4 ∷ 182 ∷ 141 ∷ 34 ∷ []) ++ replicate 89 40) ∷ [])
    ∷ (goes 2710352944 4 16 256 None ((154 ∷ 21 ∷ 144 ∷ 139 ∷ 104 ∷ 92 ∷ 219 ∷ 4 ∷ 182 ∷ 141 ∷ 34 ∷ []) ++ replicate 89 40) ∷ [])
    ∷ (goes 2710352944 4 16 256 None ((154 ∷ 21 ∷ 144 ∷ 139 ∷ 104 ∷ 92 ∷ 219 ∷ 4 ∷ 182 ∷ 141 ∷ 34 ∷ []) ++ replicate 89 40) ∷ [])
    ∷ (goes 2710352944 4 16 256 None ((154 ∷ 21 ∷ 144 ∷ 139 ∷ 104 ∷ 92 ∷ 219 ∷ 4 ∷ 182 ∷ 141 ∷ 34 ∷ []) ++ replicate 89 40) ∷ [])
    ∷ (goes 2710352944 4 16 256 None ((154 ∷ 21 ∷ 144 ∷ 139 ∷ 104 ∷ 92 ∷ 219 ∷ 4 ∷ 182 ∷ 141 ∷ 34 ∷ []) ++ replicate 89 40) ∷ [])
    ∷ (goes 2710352944 4 16 256 None ((154 ∷ 21 ∷ 144 ∷ 139 ∷ 104 ∷ 92 ∷ 219 ∷ 4 ∷ 182 ∷ 141 ∷ 34 ∷ []) ++ replicate 89 40) ∷ [])
    ∷ (goes 2710352944 4 16 256 None ((154 ∷ 21 ∷ 144 ∷ 139 ∷ 104 ∷ 92 ∷ 219 ∷ 4 ∷ 182 ∷ 141 ∷ 34 ∷ []) ++ replicate 89 40) ∷ []) ∷ []
    ∷ (goes 2710353044 4 16 256 None [] ∷ [])
    ∷ (goes 2710352944 4 16 256 None ((154 ∷ 21 ∷ 144 ∷ 139 ∷ 104 ∷ 92 ∷ 219 ∷ 4 ∷ 182 ∷ 141 ∷ 34 ∷ []) ++ replicate 89 40) ∷ [])
    ∷ (goes 2710352944 4 16 256 None ((154 ∷ 21 ∷ 144 ∷ 139 ∷ 104 ∷ 92 ∷ 219 ∷ 4 ∷ 182 ∷ 141 ∷ 34 ∷ []) ++ replicate 89 40) ∷ [])
    ∷ (goes 2710352944 4 16 256 None ((154 ∷ 21 ∷ 144 ∷ 139 ∷ 104 ∷ 92 ∷ 219 ∷ 4 ∷ 182 ∷ 141 ∷ 34 ∷ []) ++ replicate 89 40) ∷ [])
    ∷ (goes 2710352944 4 16 256 None ((154 ∷ 21 ∷ 144 ∷ 139 ∷ 104 ∷ 92 ∷ 219 ∷ 4 ∷ 182 ∷ 141 ∷ 34 ∷ []) ++ replicate 89 40) ∷ []) ∷ []
    ∷ (goes 2710353044 4 16 256 None [] ∷ []) ∷ (goes 2710353044 4 16 256 None [] ∷ []) ∷ (goes 2710353044 4 16 256 None [] ∷ []) ∷ []
    ∷ (goes 2710353044 4 16 256 None [] ∷ []) ∷ [] ∷ (goes 2710353044 4 16 256 None (40 ∷ []) ∷ []) ∷ (goes 2710353045 4 16 256 None [] ∷ [])
    ∷ (goes 2710353045 4 16 256 None [] ∷ []) ∷ [])
unfolding arrive emitted after_emission
case_37 = refl

pub case_38 : shown (play (
    at 0 Opens ∷ at 7 (Arrives (seg 1 60545 18 0 (Some 100) []))
    ∷ at 8 (Commits (12 ∷ 74 ∷ 243 ∷ 52 ∷ 128 ∷ 58 ∷ 65 ∷ 234 ∷ 44 ∷ 60 ∷ 201 ∷ 150 ∷ 93 ∷ 182 ∷ 232 ∷ 214 ∷ 250 ∷ 147 ∷ 135 ∷ 91 ∷ 221 ∷ 135 ∷ 83
    ∷ 190 ∷ 40 ∷ 122 ∷ 127 ∷ 155 ∷ 14 ∷ 75 ∷ 218 ∷ 122 ∷ 186 ∷ 34 ∷ 15 ∷ 177 ∷ 18 ∷ 113 ∷ 193 ∷ 74 ∷ []))
    ∷ at 1008 Ticks ∷ at 3008 Ticks ∷ at 7008 Ticks ∷ at 7008 (Arrives (seg 2 60545 16 100 None [])) ∷ at 15008 Ticks ∷ at 31008 Ticks
    ∷ at 63008 Ticks ∷ at 123008 Ticks ∷ at 183008 Ticks ∷ at 243008 Ticks ∷ at 243008 (Arrives (seg 2 60545 18 100 None [])) ∷ at 303008 Ticks
    ∷ at 303009 (Commits (10 ∷ 153 ∷ 122 ∷ 193 ∷ 21 ∷ [])) ∷ at 303009 (Arrives (seg 42 60590 16 500 None (225 ∷ 162 ∷ 95 ∷ 110 ∷ 206 ∷ [])))
    ∷ at 303010 (Arrives (seg 1 60590 24 65535 None (replicate 128 242))) ∷ at 303010 (Commits (replicate 300 19))
    ∷ at 303010 (Arrives (seg 139 60890 24 500 None (replicate 128 238))) ∷ at 303010 (Arrives (seg 139 60890 16 100 None (replicate 128 189)))
    ∷ at 303017 (Arrives (seg 128 60890 17 30 None (194 ∷ 94 ∷ 111 ∷ 4 ∷ [])))
    ∷ at 303017 (Arrives (seg 133 60889 16 65535 None (164 ∷ 200 ∷ 206 ∷ 78 ∷ 214 ∷ 173 ∷ 211 ∷ 30 ∷ 106 ∷ 96 ∷ 154 ∷ 51 ∷ 1 ∷ 75 ∷ 220 ∷ 6 ∷ 252
    ∷ 185 ∷ 172 ∷ 34 ∷ [])))
    ∷ at 303024 (Arrives (seg 333 60544 16 100 None (35 ∷ 132 ∷ 251 ∷ 146 ∷ 120 ∷ 254 ∷ 68 ∷ 41 ∷ 222 ∷ 28 ∷ 50 ∷ 221 ∷ 41 ∷ 6 ∷ 35 ∷ 9 ∷ 58 ∷ 106
    ∷ 76 ∷ 193 ∷ [])))
    ∷ at 303024 Shuts ∷ at 303025 (Arrives (seg 896943492 60891 16 500 None (140 ∷ 196 ∷ 11 ∷ 91 ∷ 155 ∷ [])))
    ∷ at 303026 (Arrives (seg 264 60892 16 100 None (replicate 140 41))) ∷ at 303026 (Arrives (seg 93 60890 17 0 None (replicate 70 139)))
    ∷ at 303026 (Takes 3) ∷ at 304024 Ticks ∷ at 304024 (Arrives (seg 261 60890 16 0 None (54 ∷ 240 ∷ 254 ∷ 183 ∷ 148 ∷ []))) ∷ at 306024 Ticks
    ∷ at 310024 Ticks ∷ at 318024 Ticks ∷ at 334024 Ticks ∷ at 334024 (Arrives (seg 133 60890 18 100 None [])) ∷ at 366024 Ticks ∷ at 426024 Ticks
    ∷ at 486024 Ticks ∷ at 546024 Ticks ∷ at 606024 Ticks ∷ at 606031 (Takes 129) ∷ at 606031 (Arrives (seg 93 60840 24 65535 None []))
    ∷ at 666024 Ticks ∷ [])
    (open_active mine peer 60544 512 256))
    ≡ told LastAck 346 347 0 [] 132 256 (Some 726024) true (
    (goes 60544 0 2 256 (Some 1460) [] ∷ []) ∷ (goes 60545 2 16 256 None [] ∷ []) ∷ [] ∷ (goes 60545 2 16 256 None (12 ∷ []) ∷ [])
    ∷ (goes 60545 2 16 256 None (12 ∷ []) ∷ []) ∷ (goes 60545 2 16 256 None (12 ∷ []) ∷ [])
    ∷ (goes 60546 2 24 256 None (74 ∷ 243 ∷ 52 ∷ 128 ∷ 58 ∷ 65 ∷ 234 ∷ 44 ∷ 60 ∷ 201 ∷ 150 ∷ 93 ∷ 182 ∷ 232 ∷ 214 ∷ 250 ∷ 147 ∷ 135 ∷ 91 ∷ 221
    ∷ 135 ∷ 83 ∷ 190 ∷ 40 ∷ 122 ∷ 127 ∷ 155 ∷ 14 ∷ 75 ∷ 218 ∷ 122 ∷ 186 ∷ 34 ∷ 15 ∷ 177 ∷ 18 ∷ 113 ∷ 193 ∷ 74 ∷ []) ∷ [])
    ∷ (goes 60545 2 24 256 None (12 ∷ 74 ∷ 243 ∷ 52 ∷ 128 ∷ 58 ∷ 65 ∷ 234 ∷ 44 ∷ 60 ∷ 201 ∷ 150 ∷ 93 ∷ 182 ∷ 232 ∷ 214 ∷ 250 ∷ 147 ∷ 135 ∷ 91
    ∷ 221 ∷ 135 ∷ 83 ∷ 190 ∷ 40 ∷ 122 ∷ 127 ∷ 155 ∷ 14 ∷ 75 ∷ 218 ∷ 122 ∷ 186 ∷ 34 ∷ 15 ∷ 177 ∷ 18 ∷ 113 ∷ 193 ∷ 74 ∷ []) ∷ [])
    ∷ (goes 60545 2 24 256 None (12 ∷ 74 ∷ 243 ∷ 52 ∷ 128 ∷ 58 ∷ 65 ∷ 234 ∷ 44 ∷ 60 ∷ 201 ∷ 150 ∷ 93 ∷ 182 ∷ 232 ∷ 214 ∷ 250 ∷ 147 ∷ 135 ∷ 91
    ∷ 221 ∷ 135 ∷ 83 ∷ 190 ∷ 40 ∷ 122 ∷ 127 ∷ 155 ∷ 14 ∷ 75 ∷ 218 ∷ 122 ∷ 186 ∷ 34 ∷ 15 ∷ 177 ∷ 18 ∷ 113 ∷ 193 ∷ 74 ∷ []) ∷ [])
    ∷ (goes 60545 2 24 256 None (12 ∷ 74 ∷ 243 ∷ 52 ∷ 128 ∷ 58 ∷ 65 ∷ 234 ∷ 44 ∷ 60 ∷ 201 ∷ 150 ∷ 93 ∷ 182 ∷ 232 ∷ 214 ∷ 250 ∷ 147 ∷ 135 ∷ 91
    ∷ 221 ∷ 135 ∷ 83 ∷ 190 ∷ 40 ∷ 122 ∷ 127 ∷ 155 ∷ 14 ∷ 75 ∷ 218 ∷ 122 ∷ 186 ∷ 34 ∷ 15 ∷ 177 ∷ 18 ∷ 113 ∷ 193 ∷ 74 ∷ []) ∷ [])
    ∷ (goes 60545 2 24 256 None (12 ∷ 74 ∷ 243 ∷ 52 ∷ 128 ∷ 58 ∷ 65 ∷ 234 ∷ 44 ∷ 60 ∷ 201 ∷ 150 ∷ 93 ∷ 182 ∷ 232 ∷ 214 ∷ 250 ∷ 147 ∷ 135 ∷ 91
    ∷ 221 ∷ 135 ∷ 83 ∷ 190 ∷ 40 ∷ 122 ∷ 127 ∷ 155 ∷ 14 ∷ 75 ∷ 218 ∷ 122 ∷ 186 ∷ 34 ∷ 15 ∷ 177 ∷ 18 ∷ 113 ∷ 193 ∷ 74 ∷ []) ∷ [])
    ∷ (goes 60545 2 24 256 None (12 ∷ 74 ∷ 243 ∷ 52 ∷ 128 ∷ 58 ∷ 65 ∷ 234 ∷ 44 ∷ 60 ∷ 201 ∷ 150 ∷ 93 ∷ 182 ∷ 232 ∷ 214 ∷ 250 ∷ 147 ∷ 135 ∷ 91
    ∷ 221 ∷ 135 ∷ 83 ∷ 190 ∷ 40 ∷ 122 ∷ 127 ∷ 155 ∷ 14 ∷ 75 ∷ 218 ∷ 122 ∷ 186 ∷ 34 ∷ 15 ∷ 177 ∷ 18 ∷ 113 ∷ 193 ∷ 74 ∷ []) ∷ [])
    ∷ (goes 60545 2 24 256 None (12 ∷ 74 ∷ 243 ∷ 52 ∷ 128 ∷ 58 ∷ 65 ∷ 234 ∷ 44 ∷ 60 ∷ 201 ∷ 150 ∷ 93 ∷ 182 ∷ 232 ∷ 214 ∷ 250 ∷ 147 ∷ 135 ∷ 91
    ∷ 221 ∷ 135 ∷ 83 ∷ 190 ∷ 40 ∷ 122 ∷ 127 ∷ 155 ∷ 14 ∷ 75 ∷ 218 ∷ 122 ∷ 186 ∷ 34 ∷ 15 ∷ 177 ∷ 18 ∷ 113 ∷ 193 ∷ 74 ∷ []) ∷ [])
    ∷ (goes 60585 2 16 256 None [] ∷ [])
    ∷ (goes 60545 2 24 256 None (12 ∷ 74 ∷ 243 ∷ 52 ∷ 128 ∷ 58 ∷ 65 ∷ 234 ∷ 44 ∷ 60 ∷ 201 ∷ 150 ∷ 93 ∷ 182 ∷ 232 ∷ 214 ∷ 250 ∷ 147 ∷ 135 ∷ 91
    ∷ 221 ∷ 135 ∷ 83 ∷ 190 ∷ 40 ∷ 122 ∷ 127 ∷ 155 ∷ 14 ∷ 75 ∷ 218 ∷ 122 ∷ 186 ∷ 34 ∷ 15 ∷ 177 ∷ 18 ∷ 113 ∷ 193 ∷ 74 ∷ []) ∷ [])
    ∷ (goes 60585 2 24 256 None (10 ∷ 153 ∷ 122 ∷ 193 ∷ 21 ∷ []) ∷ []) ∷ (goes 60590 2 16 256 None [] ∷ []) ∷ (goes 60590 129 16 129 None [] ∷ [])
    ∷ (goes 60590 129 16 129 None (replicate 100 19) ∷ goes 60690 129 16 129 None (replicate 100 19)
    ∷ goes 60790 129 24 129 None (replicate 100 19) ∷ [])
    ∷ (goes 60890 129 16 129 None [] ∷ []) ∷ (goes 60890 129 16 129 None [] ∷ []) ∷ (goes 60890 133 16 126 None [] ∷ []) ∷ []
    ∷ (goes 60890 133 16 126 None [] ∷ []) ∷ (goes 60890 133 17 126 None [] ∷ []) ∷ (goes 60891 133 16 126 None [] ∷ [])
    ∷ (goes 60891 133 16 126 None [] ∷ []) ∷ [] ∷ [] ∷ (goes 60890 133 17 129 None [] ∷ []) ∷ [] ∷ (goes 60890 133 17 129 None [] ∷ [])
    ∷ (goes 60890 133 17 129 None [] ∷ []) ∷ (goes 60890 133 17 129 None [] ∷ []) ∷ (goes 60890 133 17 129 None [] ∷ [])
    ∷ (goes 60891 133 16 129 None [] ∷ []) ∷ (goes 60890 133 17 129 None [] ∷ []) ∷ (goes 60890 133 17 129 None [] ∷ [])
    ∷ (goes 60890 133 17 129 None [] ∷ []) ∷ (goes 60890 133 17 129 None [] ∷ []) ∷ (goes 60890 133 17 129 None [] ∷ []) ∷ []
    ∷ (goes 60891 133 16 256 None [] ∷ []) ∷ (goes 60890 133 17 256 None [] ∷ []) ∷ [])
unfolding arrive emitted after_emission
case_38 = refl

pub case_39 : shown (play (
    at 0 Opens ∷ at 1000 Ticks ∷ at 1000 (Arrives (seg 3 837843217 16 0 None (replicate 70 0)))
    ∷ at 1000 (Commits (147 ∷ 120 ∷ 50 ∷ 203 ∷ 241 ∷ 45 ∷ 213 ∷ 17 ∷ 8 ∷ 214 ∷ 2 ∷ 193 ∷ 64 ∷ 113 ∷ 60 ∷ 225 ∷ 103 ∷ 116 ∷ 123 ∷ 67 ∷ 45 ∷ 250
    ∷ 169 ∷ 143 ∷ 111 ∷ 96 ∷ 72 ∷ 91 ∷ 87 ∷ 185 ∷ 164 ∷ 146 ∷ 91 ∷ 20 ∷ 62 ∷ 108 ∷ 32 ∷ 113 ∷ 24 ∷ 52 ∷ []))
    ∷ at 2000 Ticks ∷ at 2300 (Commits (64 ∷ 162 ∷ 94 ∷ 151 ∷ 34 ∷ [])) ∷ at 2300 (Commits (replicate 300 161)) ∷ at 4000 Ticks
    ∷ at 4001 (Arrives (seg 73 837843217 16 100 None [])) ∷ at 4008 (Arrives (seg 68 837843318 24 0 None []))
    ∷ at 4308 (Arrives (seg 73 837843167 16 30 None (221 ∷ 215 ∷ 158 ∷ 200 ∷ 20 ∷ 35 ∷ 45 ∷ 229 ∷ 152 ∷ 153 ∷ 72 ∷ 175 ∷ 163 ∷ 123 ∷ 196 ∷ 218
    ∷ 14 ∷ 211 ∷ 57 ∷ 131 ∷ [])))
    ∷ at 4309 (Arrives (seg 258 837843317 16 0 None (replicate 300 20))) ∷ at 4609 (Arrives (seg 53 837843217 26 0 None [])) ∷ at 5309 Ticks
    ∷ at 7309 Ticks ∷ at 7309 (Arrives (seg 93 837843317 18 100 None [])) ∷ at 11309 Ticks ∷ at 11309 (Arrives (seg 93 837843317 16 100 None []))
    ∷ at 19309 Ticks ∷ at 35309 Ticks ∷ at 67309 Ticks ∷ at 127309 Ticks ∷ at 187309 Ticks ∷ at 247309 Ticks
    ∷ at 247316 (Arrives (seg 93 837843317 16 100 None (30 ∷ 95 ∷ 28 ∷ 118 ∷ []))) ∷ at 307309 Ticks ∷ at 367309 Ticks ∷ at 427309 Ticks
    ∷ at 427309 (Arrives (seg 97 837843317 18 100 None [])) ∷ at 487309 Ticks ∷ at 547309 Ticks ∷ at 607309 Ticks ∷ at 667309 Ticks
    ∷ at 727309 Ticks ∷ at 787309 Ticks ∷ at 847309 Ticks ∷ at 847309 (Arrives (seg 97 837843317 16 100 None [])) ∷ at 907309 Ticks
    ∷ at 967309 Ticks ∷ at 1027309 Ticks ∷ at 1087309 Ticks ∷ at 1087309 (Commits (replicate 1 205))
    ∷ at 1087310 (Arrives (seg 259 837843316 16 500 None (238 ∷ 55 ∷ 3 ∷ 99 ∷ []))) ∷ at 1147309 Ticks
    ∷ at 1147309 (Arrives (seg 97 837843216 24 30 None (114 ∷ 251 ∷ 126 ∷ 60 ∷ 6 ∷ []))) ∷ at 1207309 Ticks ∷ at 1267309 Ticks ∷ at 1327309 Ticks
    ∷ at 1387309 Ticks ∷ at 1447309 Ticks ∷ at 1507309 Ticks ∷ at 1567309 Ticks ∷ at 1627309 Ticks ∷ at 1687309 Ticks
    ∷ at 1687309 (Arrives (seg 97 837843318 25 65535 None (240 ∷ 159 ∷ 93 ∷ 184 ∷ 47 ∷ 58 ∷ 213 ∷ 86 ∷ 121 ∷ 105 ∷ 79 ∷ 190 ∷ 179 ∷ 210 ∷ 28 ∷ 46
    ∷ 249 ∷ 89 ∷ 219 ∷ 76 ∷ [])))
    ∷ at 1687309 (Arrives (seg 142 837843317 16 0 None [])) ∷ [])
    (open_passive mine peer 837843216 (seg 2 0 2 0 (Some 64) (122 ∷ 122 ∷ [])) 512 256))
    ≡ told Broken 101 102 0 (replicate 70 0 ++ (221 ∷ 215 ∷ 158 ∷ 200 ∷ 20 ∷ 35 ∷ 45 ∷ 229 ∷ 152 ∷ 153 ∷ 72 ∷ 175 ∷ 163 ∷ 123 ∷ 196 ∷ 218 ∷ 14 ∷ 211
    ∷ 57 ∷ 131 ∷ 30 ∷ 95 ∷ 28 ∷ 118 ∷ 114 ∷ 251 ∷ 126 ∷ 60 ∷ 6 ∷ [])) 100 157 None false (
    (goes 837843216 3 18 256 (Some 1460) [] ∷ []) ∷ (goes 837843216 3 18 256 (Some 1460) [] ∷ []) ∷ (goes 837843217 73 16 186 None [] ∷ []) ∷ []
    ∷ (goes 837843217 73 16 186 None (147 ∷ []) ∷ []) ∷ [] ∷ [] ∷ (goes 837843217 73 16 186 None (147 ∷ []) ∷ [])
    ∷ (goes 837843218 73 16 186 None ((120 ∷ 50 ∷ 203 ∷ 241 ∷ 45 ∷ 213 ∷ 17 ∷ 8 ∷ 214 ∷ 2 ∷ 193 ∷ 64 ∷ 113 ∷ 60 ∷ 225 ∷ 103 ∷ 116 ∷ 123 ∷ 67 ∷ 45
    ∷ 250 ∷ 169 ∷ 143 ∷ 111 ∷ 96 ∷ 72 ∷ 91 ∷ 87 ∷ 185 ∷ 164 ∷ 146 ∷ 91 ∷ 20 ∷ 62 ∷ 108 ∷ 32 ∷ 113 ∷ 24 ∷ 52 ∷ 64 ∷ 162 ∷ 94 ∷ 151 ∷ 34 ∷ [])
    ++ replicate 20 161) ∷ goes 837843282 73 16 186 None (replicate 35 161) ∷ [])
    ∷ (goes 837843317 73 16 186 None [] ∷ []) ∷ (goes 837843317 93 16 166 None [] ∷ []) ∷ (goes 837843317 93 16 166 None [] ∷ [])
    ∷ (goes 837843317 93 16 166 None [] ∷ []) ∷ (goes 837843317 93 16 166 None (161 ∷ []) ∷ []) ∷ (goes 837843317 93 16 166 None (161 ∷ []) ∷ [])
    ∷ (goes 837843318 93 16 166 None [] ∷ []) ∷ (goes 837843317 93 16 166 None (161 ∷ []) ∷ []) ∷ []
    ∷ (goes 837843317 93 16 166 None (161 ∷ []) ∷ []) ∷ (goes 837843317 93 16 166 None (161 ∷ []) ∷ [])
    ∷ (goes 837843317 93 16 166 None (161 ∷ []) ∷ []) ∷ (goes 837843317 93 16 166 None (161 ∷ []) ∷ [])
    ∷ (goes 837843317 93 16 166 None (161 ∷ []) ∷ []) ∷ (goes 837843317 93 16 166 None (161 ∷ []) ∷ []) ∷ (goes 837843318 97 16 162 None [] ∷ [])
    ∷ (goes 837843317 97 16 162 None (161 ∷ []) ∷ []) ∷ (goes 837843317 97 16 162 None (161 ∷ []) ∷ [])
    ∷ (goes 837843317 97 16 162 None (161 ∷ []) ∷ []) ∷ (goes 837843318 97 16 162 None [] ∷ []) ∷ (goes 837843317 97 16 162 None (161 ∷ []) ∷ [])
    ∷ (goes 837843317 97 16 162 None (161 ∷ []) ∷ []) ∷ (goes 837843317 97 16 162 None (161 ∷ []) ∷ [])
    ∷ (goes 837843317 97 16 162 None (161 ∷ []) ∷ []) ∷ (goes 837843317 97 16 162 None (161 ∷ []) ∷ [])
    ∷ (goes 837843317 97 16 162 None (161 ∷ []) ∷ []) ∷ (goes 837843317 97 16 162 None (161 ∷ []) ∷ []) ∷ []
    ∷ (goes 837843317 97 16 162 None (161 ∷ []) ∷ []) ∷ (goes 837843317 97 16 162 None (161 ∷ []) ∷ [])
    ∷ (goes 837843317 97 16 162 None (161 ∷ []) ∷ []) ∷ (goes 837843317 97 16 162 None (161 ∷ []) ∷ []) ∷ []
    ∷ (goes 837843318 97 16 162 None [] ∷ []) ∷ (goes 837843317 97 16 162 None (161 ∷ []) ∷ []) ∷ (goes 837843318 102 16 157 None [] ∷ [])
    ∷ (goes 837843317 102 16 157 None (161 ∷ []) ∷ []) ∷ (goes 837843317 102 16 157 None (161 ∷ []) ∷ [])
    ∷ (goes 837843317 102 16 157 None (161 ∷ []) ∷ []) ∷ (goes 837843317 102 16 157 None (161 ∷ []) ∷ [])
    ∷ (goes 837843317 102 16 157 None (161 ∷ []) ∷ []) ∷ (goes 837843317 102 16 157 None (161 ∷ []) ∷ [])
    ∷ (goes 837843317 102 16 157 None (161 ∷ []) ∷ []) ∷ (goes 837843317 102 16 157 None (161 ∷ []) ∷ []) ∷ [] ∷ [] ∷ [] ∷ [])
unfolding arrive emitted after_emission
case_39 = refl
